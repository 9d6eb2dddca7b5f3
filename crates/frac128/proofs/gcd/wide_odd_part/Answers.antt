use mir.Syntax.{w64}
use Rattle.std.proofs.Common.{◌+◌, ◌*◌, ◌^◌, ◌%◌, ap, ◌∙◌, refl, arith}
use Rattle.std.proofs.Math.Nat.{mod-lt}
use Rattle.frac128.proofs.Binary.{odd_part_is, odd_of_high, odd_by_low}
use Rattle.frac128.proofs.gcd.wide_odd_part.Goals as goal

pub returns-then-low-eq0 : goal.returns-then-low-eq0
returns-then-low-eq0 c =
    let power = c.odd_part.ensures.power in
    record {
      odd = ap (λ n. n % 2) c.from.ensures ∙ c.odd_part.ensures.odd;
      power = (64 + power.0, ap (λ n. 2 ^ (64 + power.0) * n) c.from.ensures ∙ odd_of_high c.args.n _ power.0 c.odd_part.result c.if-low-eq0.true refl power.1);
    }

pub returns-else-low-eq0 : goal.returns-else-low-eq0
returns-else-low-eq0 c =
    let some = c.if-low-eq0.false in
    let is = odd_by_low c.args.n _ _ refl (odd_part_is w64 (c.args.n % 2 ^ 64) _ refl (omega arith) (mod-lt c.args.n (omega arith))) in
    record { odd = is.0; power = (_, is.1) }
