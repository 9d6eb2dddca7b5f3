use Rattle.std.proofs.Common.{List, length, subst, sym, ◌∙◌}
use Rattle.exact_field.specs.Rational.{ℚ}
use Rattle.frac128.specs.Held.{is_held}
use Rattle.lin_rows.specs.Sums.{AreHeld}
use Rattle.lin_rows.proofs.Errors.{err_holds}
use Rattle.rep_convert.specs.Licensed.{AreMultiplied, IsConvLeft}
use Rattle.rep_convert.proofs.Lists.{all_done, all_more}
use Rattle.rep_convert.proofs.products.try_row.Goals as goal

pub returns-in_err-try_product-clause-left : goal.returns-in_err-try_product-clause-left
returns-in_err-try_product-clause-left c = λ rep allowed.
    let x = c.vector-item.result in
    err_holds c.from_residual.result c.in_err-try_product.field-0.0 (IsConvLeft is_held rep) c.from_residual.ensures.1
    (c.in_err-try_product.ensures.left rep (subst (AreMultiplied rep c.args.row.now) (sym (c.as_slice.ensures.items ∙ c.vector-item.is))
    (allowed c.loop-vector.vector-index x c.loop-vector-test.true)))

pub loop-vector-preserved : goal.loop-vector-preserved
loop-vector-preserved c =
    let row = c.args.row.now in
    all_more (λ (v : List ℚ). AreHeld is_held row v (length row)) c.args.vectors.now c.loop-vector.vector-index c.vector-item.result c.loop-vector-test.true c.vector-item.is
    c.loop-vector.invariant (subst (λ (v : List ℚ). AreHeld is_held row v (length row)) c.as_slice.ensures.items c.in_ok-try_product.ensures.held)

pub returns-clause-held : goal.returns-clause-held
returns-clause-held c =
    let row = c.args.row.now in
    all_done (λ (v : List ℚ). AreHeld is_held row v (length row)) c.args.vectors.now c.loop-vector.vector-index c.loop-vector-test.false c.loop-vector.invariant
