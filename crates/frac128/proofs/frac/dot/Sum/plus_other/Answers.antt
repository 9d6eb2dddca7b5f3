use mir.Syntax.{w128}
use Rattle.std.specs.Prelude.{IfSome}
use Rattle.std.proofs.Common.{◌≡◌, ◌∙◌, subst, arith}
use Rattle.std.proofs.lemmas.Int.{fits_signed_from_abs, to_z-of_z}
use Rattle.exact_field.specs.Rational.{ℚ, fraction}
use Rattle.frac128.proofs.Carried.{same_total}
use Rattle.frac128.proofs.Signs.{kept}
use Rattle.frac128.proofs.Totals.{common_total, multiple_positive}
use Rattle.frac128.proofs.frac.dot.Sum.plus_other.Goals as goal

pub of-requires-clause-positive : goal.of-requires-clause-positive
of-requires-clause-positive c =
    multiple_positive c.args.self.den c.args.den c.without_common-left.ensures.0 c.without_common-left.result.1 _ c.args.self.positive c.requires.positive c.without_common-left.ensures.2 c.wide_product-multiple.ensures

pub returns : goal.returns
returns c =
    let small = c.sum_of_products-sum.ensures.size in
    let total =
    to_z-of_z w128 c.sum_of_products-sum.result (fits_signed_from_abs w128 _ (omega arith))
    ∙ c.sum_of_products-sum.ensures.value
    ∙ same_total c.args.self.num c.args.num _ _ c.without_common-left.result.1 c.without_common-left.result.0 (kept c.args.self.num (let few = c.args.self.num_small in omega arith)) (kept c.args.num (omega arith)) in
    subst (λ (z : ℚ). IfSome c.of.result (λ s. fraction s.num s.den ≡ z))
    (common_total c.args.self.num c.args.num c.args.self.den c.args.den c.without_common-left.ensures.0 _ _ _ _ c.args.self.positive c.requires.positive c.without_common-left.ensures.1 c.without_common-left.ensures.2 total c.wide_product-multiple.ensures)
    c.of.ensures
