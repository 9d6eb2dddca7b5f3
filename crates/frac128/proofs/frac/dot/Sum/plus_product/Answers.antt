use Rattle.std.proofs.Common.{sym, subst}
use Rattle.std.specs.Prelude.{IsTrue}
use Rattle.exact_field.specs.Rational.{ℚ}
use Rattle.frac128.specs.Held.{is_held, held_zero}
use Rattle.frac128.proofs.Lowest.{stored}
use Rattle.frac128.proofs.Totals.{product_zero, add_nothing}
use Rattle.frac128.proofs.frac.dot.Sum.plus_product.Goals as goal

pub returns-then-b-eq0-clause-value : goal.returns-then-b-eq0-clause-value
returns-then-b-eq0-clause-value c =
    add_nothing _ _ (product_zero c.args.a c.args.b c.a.inside.num c.b.inside.num c.a.inside.den c.b.inside.den (stored _ _ c.a.view_is) (stored _ _ c.b.view_is) c.a.invariant.0 c.b.invariant.0 c.if-b-eq0.either)

pub returns-then-b-eq0-clause-held : goal.returns-then-b-eq0-clause-held
returns-then-b-eq0-clause-held c =
    subst (λ (q : ℚ). IsTrue (is_held q))
    (sym (product_zero c.args.a c.args.b c.a.inside.num c.b.inside.num c.a.inside.den c.b.inside.den (stored _ _ c.a.view_is) (stored _ _ c.b.view_is) c.a.invariant.0 c.b.invariant.0 c.if-b-eq0.either))
    held_zero
