use Rattle.std.proofs.Common.{◌≡◌, ℕ, ◌+◌, ◌-◌, length, map, ap, refl, sym, ◌∙◌, arith}
use Rattle.exact_field.specs.Rational.{neg_ℚ}
use Rattle.exact_field.specs.Vector.{entry}
use Rattle.lin_rows.proofs.Errors.{err_holds}
use Rattle.lin_rows.proofs.Summing.{entry_read}
use Rattle.overflows.specs.Licence.{LicensedByCone}
use Rattle.overflows.specs.Faults.{OnLicence}
use Rattle.cone_dual.proofs.ByRows.{combined, may_divide, multipliers, not_zero}
use Rattle.cone_dual.proofs.Standing.{before, without}
use Rattle.cone_dual.proofs.dual_form.last_fault.Goals as goal

pub quotients_of-requires-clause-by : goal.quotients_of-requires-clause-by
quotients_of-requires-clause-by g c =
    let value = g.F.Field.value in
    let y = c.args.y.now in
    let n : ℕ = length y - 2 in
    let long = multipliers value c.args.form.now c.args.vectors.now c.requires.rows y c.requires.infeasible in
    let by_is : value c.neg.result ≡ neg_ℚ (entry (map value y) (n + 1)) =
    c.neg.ensures ∙ ap neg_ℚ (sym (entry_read value g.F.Field.holds y n c.index-y-n.result (omega (arith, long)) c.index-y-n.is)) in
    not_zero value c.args.form.now c.args.vectors.now c.requires.rows y c.requires.infeasible n (value c.neg.result) refl by_is

pub returns-in_err-quotients-clause-left : goal.returns-in_err-quotients-clause-left
returns-in_err-quotients-clause-left g c = λ file stands off.
    let value = g.F.Field.value in
    let holds = g.F.Field.holds in
    let y = c.args.y.now in
    let n : ℕ = length y - 2 in
    let fault = c.in_err-quotients.field-0.0 in
    let long = multipliers value c.args.form.now c.args.vectors.now c.requires.rows y c.requires.infeasible in
    let by_is : value c.neg.result ≡ neg_ℚ (entry (map value y) (n + 1)) =
    c.neg.ensures ∙ ap neg_ℚ (sym (entry_read value g.F.Field.holds y n c.index-y-n.result (omega (arith, long)) c.index-y-n.is)) in
    let may = may_divide value c.args.form.now c.args.vectors.now c.requires.rows y c.requires.infeasible n (value c.neg.result) refl by_is holds file stands off in
    err_holds c.from_residual.result fault (λ f. OnLicence f (LicensedByCone holds file)) c.from_residual.ensures.1
    (without holds file fault (c.in_err-quotients.ensures.left (before file) may.0 may.1))

pub returns-clause-ok : goal.returns-clause-ok
returns-clause-ok g c =
    let value = g.F.Field.value in
    let y = c.args.y.now in
    let vectors = c.args.vectors.now in
    let n : ℕ = length y - 2 in
    let long = multipliers value c.args.form.now vectors c.requires.rows y c.requires.infeasible in
    let by_is : value c.neg.result ≡ neg_ℚ (entry (map value y) (n + 1)) =
    c.neg.ensures ∙ ap neg_ℚ (sym (entry_read value g.F.Field.holds y n c.index-y-n.result (omega (arith, long)) c.index-y-n.is)) in
    combined value c.args.form.now vectors c.requires.rows y c.requires.infeasible n (value c.neg.result) refl by_is c.as_slice.result.now c.as_slice-2.result.now
    c.as_slice-3.result.now c.in_ok-spots_of.field-0 (ap (map value) c.as_slice.ensures.items ∙ c.in_ok-quotients.ensures.ok)
    (ap (map value) c.as_slice-2.ensures.items ∙ c.in_ok-shares.ensures) (ap (map value) c.as_slice-3.ensures.items ∙ c.in_ok-spread.ensures)
    c.in_ok-spots_of.ensures.vector c.in_ok-spots_of.ensures.numbers
