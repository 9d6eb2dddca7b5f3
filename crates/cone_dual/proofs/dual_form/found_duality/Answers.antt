use Rattle.std.proofs.Common.{◌≡◌, ℕ, List, [], map, ap, sym, refl, ◌∙◌, subst, None}
use Rattle.exact_field.specs.Rational.{ℚ}
use Rattle.lin_rows.specs.Read.{numbers}
use Rattle.lp_form.specs.Data.{duality_of}
use Rattle.lp_form.proofs.Figures.{objective_number}
use Rattle.vlp_problem.specs.declared.problem.Cone.TheVariants as form_of
use Rattle.cone_rules.specs.Faults.{HasInterior, HasNoLine}
use Rattle.cone_rules.proofs.Fitting.{fitting_laws}
use Rattle.cone_dual.specs.Fitting.{IsInsideRows}
use Rattle.cone_dual.proofs.ByVectors.{rows_cone_at}
use Rattle.cone_dual.proofs.Fits.{bare_fits, base_as}
use Rattle.cone_dual.proofs.Standing.{at_file}
use Rattle.cone_dual.proofs.dual_form.found_duality.Goals as goal

pub returns-clause-ok : goal.returns-clause-ok
returns-clause-ok g c = λ file stands.
    let value = g.F.Field.value in
    let form = c.args.form.now in
    let vectors = c.args.vectors.now in
    let v : List ℚ = map value c.in_ok-c.c in
    let V : List (List ℚ) = numbers value vectors in
    let objs = objective_number value file form stands in
    let cone_at : file.cone ≡ form_of.Dual V = rows_cone_at value form vectors c.requires.rows file stands in
    let none_at : file.duality ≡ None = sym stands.duality ∙ ap (duality_of value) c.requires.duality in
    let inside : IsInsideRows file.objs V v = subst (λ (n : ℕ). IsInsideRows n V v) objs c.in_ok-c.ensures.ok in
    bare_fits value g.F.Field.holds file c.in_ok-c.c c.new.result c.new-2.result c.in_ok-duality_with.field-0 v refl c.new.ensures c.new-2.ensures
    (fitting_laws.rows_found file V v cone_at none_at inside.wide inside.last inside.positive)
    (base_as file (form_of.Dual V) None v [] cone_at none_at (c.in_ok-c.ensures.read file stands, refl))
    (at_file value form file stands (λ n k d. HasInterior n k) c.requires.solid)
    (at_file value form file stands (λ n k d. HasNoLine n k) c.requires.pointed)
    c.in_ok-duality_with.ensures
