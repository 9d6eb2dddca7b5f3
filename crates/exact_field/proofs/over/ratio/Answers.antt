use mir.Syntax.{w128}
use Rattle.std.specs.Prelude.{ℤ, ◌≡◌, ◌*ℤ◌}
use Rattle.std.proofs.Common.{to_z, of_z, to_z-of_z, sym, ap, ◌∙◌, arith}
use Rattle.std.proofs.lemmas.Int.{ints}
use Rattle.exact_field.specs.Rational.{whole, ◌*ℚ◌}
use Rattle.exact_field.proofs.Numerators.{answered_quotient, quotient_multiplied}
use Rattle.exact_field.proofs.over.ratio.Goals as goal

pub returns-in-Some : goal.returns-in-Some
returns-in-Some g c =
    let common_is : to_z w128 (of_z w128 c.args.common) ≡ c.args.common = to_z-of_z c.ranges.common in
    let n_is : to_z w128 (of_z w128 c.args.n) ≡ c.args.n = to_z-of_z c.ranges.n in
    let rest_is : to_z w128 (of_z w128 c.args.rest) ≡ c.args.rest = to_z-of_z c.ranges.rest in
    let left_is : to_z w128 (of_z w128 c.in-Some.left) ≡ c.in-Some.left = omega (arith, ints) in
    answered_quotient g.F.Field.value g.F.Field.holds _ _ c.args.n c.args.by c.of.result c.of.ensures
    (λ q h. quotient_multiplied q _ _ c.args.common c.args.n c.args.by h
    (ap (λ (z : ℤ). z *ℤ c.args.common) left_is ∙ ap (λ (z : ℤ). c.in-Some.left *ℤ z) (sym common_is) ∙ c.in-Some.ensures ∙ n_is)
    (ap (λ (z : ℤ). z *ℤ c.args.common) rest_is ∙ c.requires.by))

pub returns-in-None : goal.returns-in-None
returns-in-None g c =
    let by_is : to_z w128 (of_z w128 c.args.by) ≡ c.args.by = to_z-of_z c.ranges.by in
    let n_is : to_z w128 (of_z w128 c.args.n) ≡ c.args.n = to_z-of_z c.ranges.n in
    answered_quotient g.F.Field.value g.F.Field.holds _ _ c.args.n c.args.by c.of-in-None.result c.of-in-None.ensures
    (λ q h. ap (λ (z : ℤ). q *ℚ whole z) (sym by_is) ∙ h ∙ ap whole n_is)
