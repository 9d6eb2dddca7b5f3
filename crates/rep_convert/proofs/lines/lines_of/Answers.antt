use Rattle.std.proofs.Common.{◌≡◌, List, All, length, sym, subst}
use Rattle.exact_field.specs.Rational.{ℚ}
use Rattle.frac128.specs.Held.{is_held}
use Rattle.lin_rows.proofs.Errors.{err_holds}
use Rattle.rep_convert.specs.Licensed.{AreMultiplied, IsConvLeft}
use Rattle.rep_convert.proofs.Calls.{lines_long, lines_multiplied}
use Rattle.rep_convert.proofs.lines.lines_of.Goals as goal

pub try_products-requires : goal.try_products-requires
try_products-requires c = record {
  same =
      subst (λ (vs : List (List ℚ)). All (λ (r : List ℚ). All (λ (v : List ℚ). length r ≡ length v) vs) c.args.rows.now) (sym c.as_slice.ensures.items)
      (subst (All (λ (r : List ℚ). All (λ (v : List ℚ). length r ≡ length v) c.in_ok-lines.lines)) (sym c.requires)
      (lines_long c.args.rep.now c.in_ok-lines.lines c.in_ok-lines.ensures.lines));
}

pub returns-in_err-try_products-clause-left : goal.returns-in_err-try_products-clause-left
returns-in_err-try_products-clause-left c =
    let rep = c.args.rep.now in
    err_holds c.from_residual-in_err-try_products.result c.in_err-try_products.field-0.0 (IsConvLeft is_held rep)
    c.from_residual-in_err-try_products.ensures.1
    (c.in_err-try_products.ensures.left rep
    (subst (λ (vs : List (List ℚ)). All (λ (r : List ℚ). All (AreMultiplied rep r) vs) c.args.rows.now) (sym c.as_slice.ensures.items)
    (subst (All (λ (r : List ℚ). All (AreMultiplied rep r) c.in_ok-lines.lines)) (sym c.requires)
    (lines_multiplied rep c.in_ok-lines.lines c.in_ok-lines.ensures.lines))))
