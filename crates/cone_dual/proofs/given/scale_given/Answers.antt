use Rattle.std.proofs.Common.{◌≡◌, ℕ, List, ◌-◌, ◌+◌, length, map, ap, sym, subst, ◌∙◌, arith, Option, Some}
use Rattle.std.proofs.lemmas.List.{length-map}
use Rattle.exact_field.specs.Rational.{ℚ, zero_ℚ, ◌≤ℚ◌}
use Rattle.exact_field.specs.Vector.{entry}
use Rattle.overflows.specs.Quotients.{IsDivisor, IsScaled}
use Rattle.lin_rows.proofs.Summing.{entry_read}
use Rattle.lp_form.specs.Data.{cone_of}
use Rattle.vlp_problem.specs.declared.problem.Cone.{Cone}
use Rattle.cone_rules.specs.Faults.{HasInterior, HasNoLine, IsGivenInside, ShowsLast}
use Rattle.cone_dual.proofs.Ending.{licensed_end}
use Rattle.cone_dual.proofs.Signs.{not_positive}
use Rattle.cone_dual.proofs.Standing.{as_duality, at_file, before, given_long, given_to, without}
use Rattle.cone_dual.proofs.given.scale_given.Goals as goal

pub returns-then-not-is_positive-clause-end : goal.returns-then-not-is_positive-clause-end
returns-then-not-is_positive-clause-end g c = λ file stands.
    let value = g.F.Field.value in
    let holds = g.F.Field.holds in
    let form = c.args.form.now in
    let f = c.args.f.now in
    let long : length f ≡ length form.p = given_long value form f c.requires.duality in
    let some = form.some_objective in
    let last : length f - 1 + 1 ≡ length form.p = omega (arith, long, some) in
    let here : entry (map value f) (length form.p) ≡ value c.index-f-f.result =
    ap (entry (map value f)) (sym last) ∙ entry_read value holds f (length f - 1) c.index-f-f.result (omega (arith, long, some)) c.index-f-f.is in
    let low : entry (map value f) (length form.p) ≤ℚ zero_ℚ =
    subst (λ (x : ℚ). x ≤ℚ zero_ℚ) (sym here) (not_positive c.is_positive.result (value c.index-f-f.result) c.is_positive.ensures.fact c.if-not-is_positive.true) in
    at_file value form file stands (λ (q : ℕ) (k : Cone) (d : Option (List ℚ)). HasInterior q k × HasNoLine q k × IsGivenInside q k d × ShowsLast q k d c.new.result) (
      c.requires.solid,
      c.requires.pointed,
      c.requires.inside,
      as_duality value form (Some f) c.requires.duality (λ d. ShowsLast (length form.p) (cone_of value form.cone) d c.new.result) (c.new.ensures, low),
    )

pub returns-in_err-quotients_of-clause-end : goal.returns-in_err-quotients_of-clause-end
returns-in_err-quotients_of-clause-end g c = λ file stands.
    let value = g.F.Field.value in
    let holds = g.F.Field.holds in
    let form = c.args.form.now in
    let f = c.args.f.now in
    let fault = c.in_err-quotients_of.field-0.0 in
    let long : length f ≡ length form.p = given_long value form f c.requires.duality in
    let some = form.some_objective in
    let last : length f - 1 + 1 ≡ length (map value f) = omega (arith, long, some, length-map f value) in
    let here : value c.index-f-f.result ≡ entry (map value f) (length (map value f)) =
    sym (ap (entry (map value f)) (sym last) ∙ entry_read value holds f (length f - 1) c.index-f-f.result (omega (arith, long, some)) c.index-f-f.is) in
    let given = given_to value form file stands f c.requires.duality in
    licensed_end holds file c.from_residual.result fault c.from_residual.ensures.1
    (without holds file fault (c.in_err-quotients_of.ensures.left (before file) (IsScaled.given given) (IsDivisor.given (map value f) given here)))
