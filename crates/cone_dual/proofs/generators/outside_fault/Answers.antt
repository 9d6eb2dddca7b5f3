use Rattle.std.proofs.Common.{◌≡◌, ℕ, List, [], length, map, drop, sym, subst, Option}
use Rattle.std.proofs.lemmas.Result.{IfOk-weaker}
use Rattle.exact_field.specs.Rational.{ℚ}
use Rattle.frac128.specs.declared.vectors.Spot.{Spot}
use Rattle.vlp_problem.specs.declared.problem.Cone.{Cone}
use Rattle.cone_rules.specs.Faults.{HasFault, HasInterior, HasNoLine, IsGivenOutside}
use Rattle.cone_rules.specs.declared.fault.ConeFault.{ConeFault}
use Rattle.cone_rules.specs.declared.fault.ConeFault.TheVariants.{NotInterior}
use Rattle.cone_dual.proofs.Standing.{at_file}
use Rattle.cone_dual.proofs.generators.outside_fault.Goals as goal

pub returns : goal.returns
returns g c = λ file stands.
    let value = g.F.Field.value in
    let form = c.args.form.now in
    let w : List ℚ = drop (length c.args.vectors.now) (map value c.args.y.now) in
    let P : List ℚ → List Spot → Type 0 = λ u v. HasFault file (NotInterior u v) in
    let shown : P w [] = at_file value form file stands (λ (n : ℕ) (k : Cone) (d : Option (List ℚ)). HasInterior n k × HasNoLine n k × IsGivenOutside n k d w [])
    (c.requires.solid, c.requires.pointed, c.requires.shown) in
    IfOk-weaker c.not_interior_fault.result (λ fault. fault ≡ NotInterior (map value c.entries_after-w.result.now) c.new.result) (HasFault file)
    (λ fault is. subst (λ (e : ConeFault). HasFault file e) (sym is)
    (subst (λ (u : List ℚ). P u c.new.result) (sym c.entries_after-w.ensures) (subst (λ (v : List Spot). P w v) (sym c.new.ensures) shown)))
    c.not_interior_fault.ensures
