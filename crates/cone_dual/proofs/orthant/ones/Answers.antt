use Rattle.std.proofs.Common.{◌≡◌, ℕ, [], ◌++◌, map, replicate, ap, sym, refl, subst, ◌∙◌, None}
use Rattle.std.proofs.lemmas.Result.{IfOk-weaker}
use Rattle.exact_field.specs.Rational.{one_ℚ}
use Rattle.lp_form.specs.Data.{cone_of, duality_of}
use Rattle.lp_form.proofs.Figures.{objective_number}
use Rattle.vlp_problem.specs.declared.problem.Cone.{Cone}
use Rattle.vlp_problem.specs.declared.problem.Cone.TheVariants as form_of
use Rattle.cone_rules.specs.Faults.{HasInterior, HasNoLine}
use Rattle.cone_rules.proofs.Fitting.{fitting_laws}
use Rattle.cone_rules.proofs.Ranks.{orthant_laws}
use Rattle.cone_dual.specs.Fitting.{IsDualityOf, IsMade}
use Rattle.cone_dual.proofs.Fits.{bare_fits, base_as}
use Rattle.cone_dual.proofs.orthant.ones.Goals as goal

pub returns : goal.returns
returns g c = λ file stands.
    let value = g.F.Field.value in
    let holds = g.F.Field.holds in
    let form = c.args.form.now in
    let ones = replicate file.objs one_ℚ in
    let made_of = c.push_ones.new.list in
    let objs = objective_number value file form stands in
    let cone_at : file.cone ≡ form_of.Orthant = sym stands.cone ∙ ap (cone_of value) c.requires.cone in
    let none_at : file.duality ≡ None = sym stands.duality ∙ ap (duality_of value) c.requires.duality in
    let made_is : map value made_of ≡ ones =
    c.in_ok-push_ones.ensures ∙ ap (λ l. map value l ++ replicate c.len.result one_ℚ) c.new-c.ensures ∙ ap (λ (n : ℕ). replicate n one_ℚ) (c.len.ensures.value ∙ objs) in
    IfOk-weaker c.duality_with.result (IsMade value holds made_of c.new.result c.new-2.result []) (IsDualityOf value holds file)
    (λ d made. bare_fits value holds file made_of c.new.result c.new-2.result d ones made_is c.new.ensures c.new-2.ensures (fitting_laws.orthant file cone_at none_at)
    (base_as file form_of.Orthant None ones [] cone_at none_at (refl, refl))
    (subst (λ (k : Cone). HasInterior file.objs k) (sym cone_at) (orthant_laws.solid file.objs))
    (subst (λ (k : Cone). HasNoLine file.objs k) (sym cone_at) (orthant_laws.pointed file.objs)) made)
    c.duality_with.ensures
