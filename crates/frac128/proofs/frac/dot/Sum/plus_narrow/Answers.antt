use Rattle.std.specs.Prelude.{IfSome}
use Rattle.std.proofs.Common.{◌≡◌, subst}
use Rattle.exact_field.specs.Rational.{ℚ, fraction, ◌+ℚ◌}
use Rattle.frac128.proofs.Lowest.{stored}
use Rattle.frac128.proofs.Totals.{product_total, narrow_held}
use Rattle.frac128.proofs.frac.dot.Sum.plus_narrow.Goals as goal

pub returns-clause-value : goal.returns-clause-value
returns-clause-value c =
    subst (λ (z : ℚ). IfSome c.plus.result (λ s. fraction s.num s.den ≡ fraction c.args.self.num c.args.self.den +ℚ z))
    (product_total c.args.a c.args.b c.a.inside.num c.b.inside.num c.narrow_product-num.result c.a.inside.den c.b.inside.den
    (stored _ _ c.a.view_is) (stored _ _ c.b.view_is) c.a.invariant.0 c.b.invariant.0 c.narrow_product-num.ensures.value c.narrow_product-num.ensures.size)
    c.plus.ensures

pub returns-clause-held : goal.returns-clause-held
returns-clause-held c = narrow_held c.args.a c.args.b c.requires.a_narrow c.requires.b_narrow
