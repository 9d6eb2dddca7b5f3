use Rattle.std.proofs.Common.{◌≡◌, ℕ, List, [], length, map, ap, sym, refl, subst, ◌∙◌, Some}
use Rattle.exact_field.specs.Rational.{ℚ}
use Rattle.std.proofs.lemmas.List.{length-map}
use Rattle.lp_form.specs.Data.{cone_of, duality_of}
use Rattle.lp_form.proofs.Figures.{objective_number}
use Rattle.lp_form.specs.declared.data.ConeOf.TheVariants.{Orthant}
use Rattle.vlp_problem.specs.declared.problem.Cone.{Cone}
use Rattle.vlp_problem.specs.declared.problem.Cone.TheVariants as form_of
use Rattle.cone_rules.specs.Faults.{HasInterior, HasNoLine, IsGivenInside}
use Rattle.cone_rules.specs.Laws.{at_last_one}
use Rattle.cone_rules.proofs.Fitting.{fitting_laws}
use Rattle.cone_rules.proofs.Ranks.{orthant_laws}
use Rattle.cone_dual.proofs.Fits.{bare_fits, base_as}
use Rattle.cone_dual.proofs.Standing.{as_cone, given_inside, given_long, given_to}
use Rattle.cone_dual.proofs.orthant.given_duality.Goals as goal

pub scale_given-requires-clause-solid : goal.scale_given-requires-clause-solid
scale_given-requires-clause-solid g c =
    let form = c.args.form.now in
    as_cone g.F.Field.value form Orthant c.requires.cone (λ (k : Cone). HasInterior (length form.p) k) (orthant_laws.solid (length form.p))

pub scale_given-requires-clause-pointed : goal.scale_given-requires-clause-pointed
scale_given-requires-clause-pointed g c =
    let form = c.args.form.now in
    as_cone g.F.Field.value form Orthant c.requires.cone (λ (k : Cone). HasNoLine (length form.p) k) (orthant_laws.pointed (length form.p))

pub scale_given-requires-clause-inside : goal.scale_given-requires-clause-inside
scale_given-requires-clause-inside g c =
    let value = g.F.Field.value in
    let form = c.args.form.now in
    let f = c.args.f.now in
    let q = length form.p in
    as_cone value form Orthant c.requires.cone (λ (k : Cone). IsGivenInside q k (duality_of value form.duality))
    (given_inside value form f c.requires.duality q form_of.Orthant
    (orthant_laws.inside q (map value f) (length-map f value ∙ given_long value form f c.requires.duality) c.in_ok-require_positive.ensures.positive))

pub returns-clause-ok : goal.returns-clause-ok
returns-clause-ok g c = λ file stands.
    let value = g.F.Field.value in
    let form = c.args.form.now in
    let f = c.args.f.now in
    let F : List ℚ = map value f in
    let objs = objective_number value file form stands in
    let long : length form.p ≡ length F = sym (length-map f value ∙ given_long value form f c.requires.duality) in
    let cone_at : file.cone ≡ form_of.Orthant = sym stands.cone ∙ ap (cone_of value) c.requires.cone in
    let dual_at = given_to value form file stands f c.requires.duality in
    bare_fits value g.F.Field.holds file c.in_ok-c.c c.new.result c.new-2.result c.in_ok-duality_with.field-0 (at_last_one file.objs F)
    (c.in_ok-c.ensures.ok ∙ ap (λ (n : ℕ). at_last_one n F) objs) c.new.ensures c.new-2.ensures
    (fitting_laws.orthant_given file F cone_at dual_at c.in_ok-require_positive.ensures.positive)
    (base_as file form_of.Orthant (Some F) (at_last_one file.objs F) [] cone_at dual_at (ap (λ (n : ℕ). at_last_one n F) (sym objs ∙ long), refl))
    (subst (λ (k : Cone). HasInterior file.objs k) (sym cone_at) (orthant_laws.solid file.objs))
    (subst (λ (k : Cone). HasNoLine file.objs k) (sym cone_at) (orthant_laws.pointed file.objs))
    c.in_ok-duality_with.ensures
