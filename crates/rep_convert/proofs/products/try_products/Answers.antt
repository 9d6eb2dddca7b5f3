use Rattle.std.proofs.Common.{List, All, length, subst, sym, ◌∙◌}
use Rattle.exact_field.specs.Rational.{ℚ}
use Rattle.frac128.specs.Held.{is_held}
use Rattle.lin_rows.specs.Sums.{AreHeld}
use Rattle.lin_rows.proofs.Errors.{err_holds}
use Rattle.rep_convert.specs.Licensed.{AreMultiplied, IsConvLeft}
use Rattle.rep_convert.proofs.Lists.{all_done, all_more}
use Rattle.rep_convert.proofs.products.try_products.Goals as goal

pub returns-in_err-try_row-clause-left : goal.returns-in_err-try_row-clause-left
returns-in_err-try_row-clause-left c = λ rep allowed.
    let x = c.row-item.result in
    let vs = c.args.vectors.now in
    err_holds c.from_residual.result c.in_err-try_row.field-0.0 (IsConvLeft is_held rep) c.from_residual.ensures.1
    (c.in_err-try_row.ensures.left rep (subst (λ (r : List ℚ). All (AreMultiplied rep r) vs) (sym (c.as_slice.ensures.items ∙ c.row-item.is))
    (allowed c.loop-row.row-index x c.loop-row-test.true)))

pub loop-row-preserved : goal.loop-row-preserved
loop-row-preserved c =
    let vs = c.args.vectors.now in
    all_more (λ (r : List ℚ). All (λ (v : List ℚ). AreHeld is_held r v (length r)) vs) c.args.rows.now c.loop-row.row-index c.row-item.result c.loop-row-test.true
    c.row-item.is c.loop-row.invariant
    (subst (λ (r : List ℚ). All (λ (v : List ℚ). AreHeld is_held r v (length r)) vs) c.as_slice.ensures.items c.in_ok-try_row.ensures.held)

pub returns-clause-held : goal.returns-clause-held
returns-clause-held c =
    let vs = c.args.vectors.now in
    all_done (λ (r : List ℚ). All (λ (v : List ℚ). AreHeld is_held r v (length r)) vs) c.args.rows.now c.loop-row.row-index c.loop-row-test.false c.loop-row.invariant
