use Rattle.std.proofs.Common.{◌≡◌, ℕ, List, length, map, ap, sym, subst, ◌∙◌, Option}
use Rattle.exact_field.specs.Rational.{ℚ}
use Rattle.lin_rows.specs.Answers.{IsIndep}
use Rattle.lin_rows.specs.Read.{numbers}
use Rattle.lp_form.specs.declared.data.ConeOf.TheVariants.{Gens}
use Rattle.tableaux.specs.Elimination.{IsOrthogonal}
use Rattle.vlp_problem.specs.declared.problem.Cone.{Cone}
use Rattle.cone_rules.specs.Faults.{ShowsFlat}
use Rattle.cone_dual.proofs.ByVectors.{wide}
use Rattle.cone_dual.proofs.Standing.{as_cone, at_file}
use Rattle.cone_dual.proofs.generators.independent_generators.Goals as goal

pub independent_vectors-requires : goal.independent_vectors-requires
independent_vectors-requires g c = wide g.F.Field.value c.args.form.now c.args.vectors.now c.requires

pub returns-in_ok-w-in-Orthogonal-clause-end : goal.returns-in_ok-w-in-Orthogonal-clause-end
returns-in_ok-w-in-Orthogonal-clause-end g c = λ file stands.
    let value = g.F.Field.value in
    let form = c.args.form.now in
    let q = length form.p in
    let all : List (List ℚ) = numbers value c.args.vectors.now in
    let z : List ℚ = map value c.in-Orthogonal.w in
    let w = c.in_ok-w-in-Orthogonal.w in
    let m = c.new.result in
    let across : IsOrthogonal q all z = (subst (λ e. IsIndep value q all e) c.in-Orthogonal.is c.in_ok-picks.ensures.ok).orthogonal in
    let w_is : w ≡ z = c.in_ok-w-in-Orthogonal.ensures.same ∙ ap (map value) c.as_slice.ensures.items in
    at_file value form file stands (λ (n : ℕ) (k : Cone) (d : Option (List ℚ)). ShowsFlat n k w m)
    (as_cone value form (Gens c.args.vectors.now) c.requires (λ (k : Cone). ShowsFlat q k w m)
    (record { lengths = c.new.ensures; orthogonal = subst (λ (v : List ℚ). IsOrthogonal q all v) (sym w_is) across }))
