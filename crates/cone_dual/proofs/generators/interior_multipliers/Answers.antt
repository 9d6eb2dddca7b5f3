use Rattle.std.proofs.Common.{◌≡◌, ℕ, List, ◌++◌, length, map, take, ap, sym, subst, ◌∙◌, Option, None, All}
use Rattle.std.proofs.lemmas.List.{length-map, take-map}
use Rattle.exact_field.specs.Rational.{ℚ, zero_ℚ, one_ℚ, ◌≤ℚ◌}
use Rattle.exact_field.specs.Vector.{entry}
use Rattle.exact_simplex.specs.Ends.{IsCertified, IsReadOff}
use Rattle.lin_rows.specs.Read.{numbers}
use Rattle.lp_form.specs.Data.{cone_of, duality_of}
use Rattle.lp_form.specs.Programs.{interior_of_generators, interior_system}
use Rattle.lp_form.specs.declared.data.ConeOf.TheVariants.{Gens}
use Rattle.polyhedra.specs.Vectors.{combination}
use Rattle.tableaux.specs.Simplex.{IsOptimal, IsInfeasible, IsUnbounded, OptimalAt}
use Rattle.tableaux.specs.Table.{System, Table}
use Rattle.vlp_problem.specs.declared.problem.Cone.{Cone}
use Rattle.cone_rules.specs.Faults.{HasInterior, HasNoLine, IsGivenInside, ShowsLast}
use Rattle.cone_rules.specs.Laws.{IsPositiveCombination}
use Rattle.cone_rules.proofs.FoundGenerators.{found_program}
use Rattle.cone_dual.proofs.ByVectors.{found_is, solution_off, wide}
use Rattle.cone_dual.proofs.Standing.{as_cone, as_duality, at_file}
use Rattle.cone_dual.proofs.generators.interior_multipliers.Goals as goal

pub returns-in-Optimal-clause-ok : goal.returns-in-Optimal-clause-ok
returns-in-Optimal-clause-ok g c =
    let value = g.F.Field.value in
    let form = c.args.form.now in
    let vectors = c.args.vectors.now in
    let q = length form.p in
    let n : ℕ = length vectors in
    let all = numbers value vectors in
    let x : List ℚ = map value c.in-Optimal.x in
    let d : List ℚ = map value c.in-Optimal.dual in
    let mu : List ℚ = map value c.append.new.self in
    let system = interior_system q (cone_of value form.cone) (duality_of value form.duality) in
    let taken : take n x ≡ mu =
    take-map value n c.in-Optimal.x
    ∙ sym (ap (map value) (c.in_ok-append-in-Optimal.ensures.ok ∙ ap (λ l. l ++ take n c.as_slice.result.now) c.new-mu.ensures ∙ ap (take n) c.as_slice.ensures.items)) in
    let same : take (length all) x ≡ mu = ap (λ (k : ℕ). take k x) (length-map vectors (map value)) ∙ taken in
    let optimal : IsOptimal (interior_of_generators q all None) x d =
    subst (λ (s : System). IsOptimal s x d) (found_is value form vectors c.requires.generators c.requires.duality)
    (subst (λ e. IsCertified value system e) c.in-Optimal.is c.in_ok-x.ensures.certified) in
    let law = found_program.optimal q all x d (wide value form vectors c.requires.generators) optimal in
    record {
      positive = subst (λ (m : List ℚ). IsPositiveCombination q all m (combination q m all)) same law.0;
      last = subst (λ (m : List ℚ). entry (combination q m all) q ≡ one_ℚ) same law.1;
    }

pub returns-in-Optimal-clause-read : goal.returns-in-Optimal-clause-read
returns-in-Optimal-clause-read g c =
    let value = g.F.Field.value in
    let form = c.args.form.now in
    let vectors = c.args.vectors.now in
    let q = length form.p in
    let n : ℕ = length vectors in
    let all = numbers value vectors in
    let x : List ℚ = map value c.in-Optimal.x in
    let d : List ℚ = map value c.in-Optimal.dual in
    let basis = c.in-Optimal.basis in
    let system = interior_system q (cone_of value form.cone) (duality_of value form.duality) in
    let read : (t : Table) × OptimalAt (interior_of_generators q all None) basis t x d =
    subst (λ (s : System). (t : Table) × OptimalAt s basis t x d) (found_is value form vectors c.requires.generators c.requires.duality)
    (subst (λ e. IsReadOff value system e) c.in-Optimal.is c.in_ok-x.ensures.read_off) in (
      x,
      solution_off (interior_of_generators q all None) basis x d read,
      ap (map value) (c.in_ok-append-in-Optimal.ensures.ok ∙ ap (λ l. l ++ take n c.as_slice.result.now) c.new-mu.ensures ∙ ap (take n) c.as_slice.ensures.items) ∙ sym (take-map value n c.in-Optimal.x),
    )

pub returns-in-Infeasible-clause-end : goal.returns-in-Infeasible-clause-end
returns-in-Infeasible-clause-end g c = λ file stands.
    let value = g.F.Field.value in
    let form = c.args.form.now in
    let vectors = c.args.vectors.now in
    let q = length form.p in
    let all = numbers value vectors in
    let y : List ℚ = map value c.in-Infeasible.farkas in
    let m = c.new.result in
    let system = interior_system q (cone_of value form.cone) (duality_of value form.duality) in
    let infeasible : IsInfeasible (interior_of_generators q all None) y =
    subst (λ (s : System). IsInfeasible s y) (found_is value form vectors c.requires.generators c.requires.duality)
    (subst (λ e. IsCertified value system e) c.in-Infeasible.is c.in_ok-x.ensures.certified) in
    let low : All (λ v. entry v q ≤ℚ zero_ℚ) all = found_program.infeasible q all y (wide value form vectors c.requires.generators) infeasible in
    at_file value form file stands (λ (k : ℕ) (o : Cone) (d : Option (List ℚ)). HasInterior k o × HasNoLine k o × IsGivenInside k o d × ShowsLast k o d m) (
      c.requires.solid,
      c.requires.pointed,
      as_duality value form None c.requires.duality (λ (d : Option (List ℚ)). IsGivenInside q (cone_of value form.cone) d) (λ f e. absurd (cc)),
      as_duality value form None c.requires.duality (λ (d : Option (List ℚ)). ShowsLast q (cone_of value form.cone) d m)
          (as_cone value form (Gens vectors) c.requires.generators (λ (o : Cone). ShowsLast q o None m) (c.new.ensures, low)),
    )

pub unreachable-requires : goal.unreachable-requires
unreachable-requires g c =
    let value = g.F.Field.value in
    let form = c.args.form.now in
    let vectors = c.args.vectors.now in
    let q = length form.p in
    let all = numbers value vectors in
    let x : List ℚ = map value c.in-Unbounded.x in
    let ray : List ℚ = map value c.in-Unbounded.ray in
    let system = interior_system q (cone_of value form.cone) (duality_of value form.duality) in
    found_program.bounded q all x ray (wide value form vectors c.requires.generators)
    (subst (λ (s : System). IsUnbounded s x ray) (found_is value form vectors c.requires.generators c.requires.duality)
    (subst (λ e. IsCertified value system e) c.in-Unbounded.is c.in_ok-x.ensures.certified))
