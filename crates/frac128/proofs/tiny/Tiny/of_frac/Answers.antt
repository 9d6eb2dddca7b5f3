use mir.Syntax.{w8, w128}
use mir.Val.{to_z, of_z}
use Rattle.std.proofs.Common.{◌≡◌, ◌<◌, ℕ, ℤ, unsigned_abs, sym, subst, arith}
use Rattle.std.specs.Int.{IsGcd}
use Rattle.std.proofs.lemmas.Int.{ints}
use Rattle.exact_field.specs.Rational.{same_parts}
use Rattle.frac128.proofs.Holds.{tiny_parts}
use Rattle.frac128.proofs.tiny.Tiny.of_frac.Goals as goal

pub invariant_of-result : goal.invariant_of-result
invariant_of-result c =
    let parts = tiny_parts c.args.exact c.requires in
    let num : to_z w8 (of_z w8 (to_z w128 (of_z w128 c.num-num.result))) ≡ c.args.exact.num = omega (arith, ints, c.num-num.ensures.part, parts.num) in
    let den : unsigned_abs (to_z w128 (of_z w128 c.den-den.result)) ≡ c.args.exact.den = omega (arith, ints, c.den-den.ensures.part, parts.den) in (
      subst (λ (n : ℕ). 0 < n) (sym den) c.args.exact.positive,
      (
        subst (λ (n : ℤ). IsGcd (unsigned_abs n) (unsigned_abs (to_z w128 (of_z w128 c.den-den.result))) 1) (sym num)
            (subst (λ (n : ℕ). IsGcd (unsigned_abs c.args.exact.num) n 1) (sym den) c.args.exact.lowest),
        tt,
      ),
    )

pub returns : goal.returns
returns c =
    let parts = tiny_parts c.args.exact c.requires in
    same_parts _ c.args.exact (omega (arith, ints, c.num-num.ensures.part, parts.num)) (omega (arith, ints, c.den-den.ensures.part, parts.den))
