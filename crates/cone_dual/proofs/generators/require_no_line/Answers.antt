use Rattle.std.proofs.Common.{ℕ, List, length, subst, Option}
use Rattle.std.specs.Prelude.{IfNone, IfSome}
use Rattle.exact_field.specs.Rational.{ℚ}
use Rattle.lin_rows.specs.Read.{numbers}
use Rattle.lp_form.specs.Programs.{nonzero_vectors, zero_combination}
use Rattle.lp_form.specs.declared.data.ConeOf.TheVariants.{Gens}
use Rattle.tableaux.specs.Simplex.{IsInfeasible}
use Rattle.vlp_problem.specs.declared.problem.Cone.{Cone}
use Rattle.vlp_problem.specs.declared.problem.Cone.TheVariants as form_of
use Rattle.cone_rules.specs.Faults.{HasInterior, HasNoLine, IsZeroCombination, ShowsLine}
use Rattle.cone_rules.proofs.Pointed.{pointed_program}
use Rattle.cone_dual.proofs.ByVectors.{wide}
use Rattle.cone_dual.proofs.Standing.{as_cone, at_file}
use Rattle.cone_dual.proofs.generators.require_no_line.Goals as goal

pub zero_combination-requires-clause-wide : goal.zero_combination-requires-clause-wide
zero_combination-requires-clause-wide g c = wide g.F.Field.value c.args.form.now c.args.vectors.now c.requires.generators

pub returns-in-None-clause-ok : goal.returns-in-None-clause-ok
returns-in-None-clause-ok g c =
    let value = g.F.Field.value in
    let form = c.args.form.now in
    let q = length form.p in
    let all = numbers value c.args.vectors.now in
    let none : (y : List ℚ) × IsInfeasible (zero_combination q (nonzero_vectors (form_of.Gens all))) y =
    subst (λ r. IfNone r ((y : List ℚ) × IsInfeasible (zero_combination q (nonzero_vectors (form_of.Gens all))) y)) c.in-None.is c.in_ok-zero_combination.ensures.none in
    as_cone value form (Gens c.args.vectors.now) c.requires.generators (λ (k : Cone). HasNoLine q k)
    (pointed_program.generated q all none.0 (wide value form c.args.vectors.now c.requires.generators) none.1)

pub returns-in-Some-clause-end : goal.returns-in-Some-clause-end
returns-in-Some-clause-end g c = λ file stands.
    let value = g.F.Field.value in
    let form = c.args.form.now in
    let q = length form.p in
    let all = numbers value c.args.vectors.now in
    let line = c.in-Some.line in
    let shown : IsZeroCombination q all line.m line.first =
    subst (λ r. IfSome r (λ z. IsZeroCombination q all z.m z.first)) c.in-Some.is c.in_ok-zero_combination.ensures.some in
    at_file value form file stands (λ (n : ℕ) (k : Cone) (d : Option (List ℚ)). HasInterior n k × ShowsLine n k line.first line.m)
    (c.requires.solid, as_cone value form (Gens c.args.vectors.now) c.requires.generators (λ (k : Cone). ShowsLine q k line.first line.m) shown)
