use mir.Syntax.{w128}
use Rattle.std.proofs.Common.{◌≡◌, ◌*◌, ◌+◌, ◌/◌, Bool, unsigned_abs, ap, ◌∙◌, arith}
use Rattle.std.proofs.Math.Nat.{div-add-mod, mod-lt}
use Rattle.std.proofs.lemmas.Int.{ints, to_z-of_z}
use Rattle.frac128.specs.Signed.{signed, is_below_zero}
use Rattle.frac128.proofs.Lowest.{signed_is}
use Rattle.frac128.proofs.Signs.{below_zero}
use Rattle.frac128.proofs.joint.Total.of.Goals as goal

pub returns : goal.returns
returns c =
    let q = c.divide-whole.result.0 in
    let r = c.divide-whole.result.1 in
    let d = c.args.divisor in
    let size : c.unsigned_abs.result ≡ unsigned_abs c.args.number = omega (arith, ints, c.unsigned_abs.ensures.value) in
    let whole : q * d + r ≡ unsigned_abs c.args.number =
    ap (λ n. n * d + r) c.divide-whole.ensures.quotient ∙ ap (λ n. c.unsigned_abs.result / d * d + n) c.divide-whole.ensures.rest ∙ omega (arith, div-add-mod c.unsigned_abs.result d) in
    record {
      value = ap (λ (b : Bool). signed b (q * d + r)) (below_zero _ ∙ ap is_below_zero (to_z-of_z w128 c.args.number c.ranges.number)) ∙ ap (signed (is_below_zero c.args.number)) whole ∙ signed_is c.args.number;
      rest = omega (arith, c.divide-whole.ensures.rest, mod-lt c.unsigned_abs.result c.requires);
    }
