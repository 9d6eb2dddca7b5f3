use Rattle.std.proofs.Common.{◌≡◌, ℕ, List, [], length, map, ap, sym, refl, ◌∙◌, subst, Some}
use Rattle.std.proofs.lemmas.List.{length-map}
use Rattle.exact_field.specs.Rational.{ℚ, zero_ℚ, ◌<ℚ◌}
use Rattle.exact_field.specs.Vector.{entry}
use Rattle.lin_rows.specs.Read.{numbers}
use Rattle.lp_form.specs.Data.{duality_of}
use Rattle.lp_form.specs.declared.data.ConeOf.TheVariants.{Dual}
use Rattle.lp_form.proofs.Figures.{objective_number}
use Rattle.vlp_problem.specs.declared.problem.Cone.{Cone}
use Rattle.vlp_problem.specs.declared.problem.Cone.TheVariants as form_of
use Rattle.cone_rules.specs.Faults.{HasInterior, HasNoLine, IsGivenInside}
use Rattle.cone_rules.specs.Laws.{at_last_one}
use Rattle.cone_rules.proofs.Fitting.{fitting_laws}
use Rattle.cone_rules.proofs.Rows.{row_tests}
use Rattle.cone_dual.proofs.ByVectors.{rows_cone_at, rows_wide}
use Rattle.cone_dual.proofs.Fits.{bare_fits, base_as}
use Rattle.cone_dual.proofs.Standing.{as_cone, at_file, given_inside, given_long, given_to}
use Rattle.cone_dual.proofs.dual_form.given_duality.Goals as goal

pub scale_given-requires-clause-inside : goal.scale_given-requires-clause-inside
scale_given-requires-clause-inside g c =
    let value = g.F.Field.value in
    let form = c.args.form.now in
    let vectors = c.args.vectors.now in
    let f = c.args.f.now in
    let q = length form.p in
    let V : List (List ℚ) = numbers value vectors in
    as_cone value form (Dual vectors) c.requires.rows (λ (k : Cone). IsGivenInside q k (duality_of value form.duality))
    (given_inside value form f c.requires.duality q (form_of.Dual V)
    (row_tests.inside q V (map value f) (rows_wide value form vectors c.requires.rows) (length-map f value ∙ given_long value form f c.requires.duality)
    c.in_ok-require_inside.ensures.ok))

pub returns-clause-ok : goal.returns-clause-ok
returns-clause-ok g c = λ file stands.
    let value = g.F.Field.value in
    let form = c.args.form.now in
    let vectors = c.args.vectors.now in
    let f = c.args.f.now in
    let F : List ℚ = map value f in
    let V : List (List ℚ) = numbers value vectors in
    let objs = objective_number value file form stands in
    let long : length form.p ≡ length F = sym (length-map f value ∙ given_long value form f c.requires.duality) in
    let cone_at : file.cone ≡ form_of.Dual V = rows_cone_at value form vectors c.requires.rows file stands in
    let dual_at = given_to value form file stands f c.requires.duality in
    bare_fits value g.F.Field.holds file c.in_ok-c.c c.new.result c.new-2.result c.in_ok-duality_with.field-0 (at_last_one file.objs F)
    (c.in_ok-c.ensures.ok ∙ ap (λ (n : ℕ). at_last_one n F) objs) c.new.ensures c.new-2.ensures
    (fitting_laws.rows_given file V F cone_at dual_at (subst (λ (n : ℕ). zero_ℚ <ℚ entry F n) objs c.in_ok-c.ensures.positive) c.in_ok-require_inside.ensures.ok)
    (base_as file (form_of.Dual V) (Some F) (at_last_one file.objs F) [] cone_at dual_at (ap (λ (n : ℕ). at_last_one n F) (sym objs ∙ long), refl))
    (at_file value form file stands (λ n k d. HasInterior n k) c.requires.solid)
    (at_file value form file stands (λ n k d. HasNoLine n k) c.requires.pointed)
    c.in_ok-duality_with.ensures
