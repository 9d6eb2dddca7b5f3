use Rattle.std.proofs.Common.{◌≡◌, ℕ, List, length, map, ap, sym, subst, ◌∙◌, Option}
use Rattle.exact_field.specs.Rational.{ℚ}
use Rattle.lin_rows.specs.Answers.{IsIndep}
use Rattle.lin_rows.specs.Read.{numbers}
use Rattle.lp_form.specs.declared.data.ConeOf.TheVariants.{Dual}
use Rattle.tableaux.specs.Elimination.{AreIndependent, IsOrthogonal}
use Rattle.vlp_problem.specs.declared.problem.Cone.{Cone}
use Rattle.cone_rules.specs.Faults.{HasInterior, HasNoLine, ShowsLine}
use Rattle.cone_rules.proofs.Ranks.{rank_laws}
use Rattle.cone_dual.proofs.ByVectors.{rows_wide}
use Rattle.cone_dual.proofs.Picks.{full_rank}
use Rattle.cone_dual.proofs.Standing.{as_cone, at_file}
use Rattle.cone_dual.proofs.dual_form.require_no_line.Goals as goal

pub independent_vectors-requires : goal.independent_vectors-requires
independent_vectors-requires g c = rows_wide g.F.Field.value c.args.form.now c.args.vectors.now c.requires.rows

pub returns-in-Basis-clause-ok : goal.returns-in-Basis-clause-ok
returns-in-Basis-clause-ok g c =
    let value = g.F.Field.value in
    let form = c.args.form.now in
    let q = length form.p in
    let all : List (List ℚ) = numbers value c.args.vectors.now in
    let independent : AreIndependent q all c.in-Basis.field-0 = subst (λ e. IsIndep value q all e) c.in-Basis.is c.in_ok-independent_vectors.ensures.ok in
    as_cone value form (Dual c.args.vectors.now) c.requires.rows (λ (k : Cone). HasNoLine q k)
    (rank_laws.pointed q all (full_rank q all c.in-Basis.field-0 independent))

pub returns-clause-end : goal.returns-clause-end
returns-clause-end g c = λ file stands.
    let value = g.F.Field.value in
    let form = c.args.form.now in
    let q = length form.p in
    let all : List (List ℚ) = numbers value c.args.vectors.now in
    let z : List ℚ = map value c.in-Orthogonal.d in
    let d = c.in_ok-d-in-Orthogonal.d in
    let m = c.new.result in
    let across : IsOrthogonal q all z = (subst (λ e. IsIndep value q all e) c.in-Orthogonal.is c.in_ok-independent_vectors.ensures.ok).orthogonal in
    let d_is : d ≡ z = c.in_ok-d-in-Orthogonal.ensures.same ∙ ap (map value) c.as_slice.ensures.items in
    at_file value form file stands (λ (n : ℕ) (k : Cone) (o : Option (List ℚ)). HasInterior n k × ShowsLine n k d m) (
      c.requires.solid,
      as_cone value form (Dual c.args.vectors.now) c.requires.rows (λ (k : Cone). ShowsLine q k d m)
          (record { lengths = c.new.ensures; orthogonal = subst (λ (v : List ℚ). IsOrthogonal q all v) (sym d_is) across }),
    )
