use Rattle.std.proofs.Common.{◌≡◌, ℕ, List, [], ◌+◌, length, map, ap, sym, subst, ◌∙◌, arith, Option, Some}
use Rattle.exact_field.specs.Rational.{ℚ}
use Rattle.frac128.specs.declared.vectors.Spot.{Spot}
use Rattle.lp_form.specs.Data.{duality_of}
use Rattle.lp_form.specs.declared.data.ConeOf.TheVariants.{Orthant}
use Rattle.tableaux.specs.Table.{unit}
use Rattle.vlp_problem.specs.declared.problem.Cone.{Cone}
use Rattle.vlp_problem.specs.declared.problem.Cone.TheVariants as form_of
use Rattle.cone_rules.specs.Faults.{HasFault, HasInterior, HasNoLine, IsGivenOutside, ShowsOutside}
use Rattle.cone_rules.proofs.Ranks.{orthant_laws}
use Rattle.cone_dual.proofs.Standing.{as_cone, as_duality, at_file, given_long}
use Rattle.cone_dual.proofs.orthant.require_positive.Goals as goal

pub returns-in_ok-fault-in-Some-clause-end : goal.returns-in_ok-fault-in-Some-clause-end
returns-in_ok-fault-in-Some-clause-end g c = λ file stands.
    let value = g.F.Field.value in
    let form = c.args.form.now in
    let f = c.args.f.now in
    let q = length form.p in
    let long : length f ≡ q = given_long value form f c.requires.duality in
    let k = c.in-Some.k in
    let w = map value c.as_slice.result.now in
    let v = c.new.result in
    let found = c.in-Some.ensures.some in
    let inside = found.0 in
    let w_is = ap (map value) c.as_slice.ensures.items ∙ c.in_ok-w-in-Some.ensures ∙ ap (λ (n : ℕ). unit n (k + 1)) long in
    let law : ShowsOutside q form_of.Orthant (map value f) (unit q (k + 1)) [] = orthant_laws.outside q (map value f) (k + 1) (omega arith) (omega (arith, inside, long)) found.1 in
    let shown : ShowsOutside q form_of.Orthant (map value f) w v =
    subst (λ (x : List ℚ). ShowsOutside q form_of.Orthant (map value f) x v) (sym w_is)
    (subst (λ (x : List Spot). ShowsOutside q form_of.Orthant (map value f) (unit q (k + 1)) x) (sym c.new.ensures) law) in
    subst (λ fault. HasFault file fault) (sym c.in_ok-fault-in-Some.ensures)
    (at_file value form file stands (λ (n : ℕ) (o : Cone) (d : Option (List ℚ)). HasInterior n o × HasNoLine n o × IsGivenOutside n o d w v)
    (as_cone value form Orthant c.requires.cone (λ (o : Cone). HasInterior q o × HasNoLine q o × IsGivenOutside q o (duality_of value form.duality) w v) (
      orthant_laws.solid q,
      orthant_laws.pointed q,
      as_duality value form (Some f) c.requires.duality (λ (d : Option (List ℚ)). IsGivenOutside q form_of.Orthant d w v) shown,
    )))
