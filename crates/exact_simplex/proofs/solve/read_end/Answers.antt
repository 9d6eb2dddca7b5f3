use Rattle.std.proofs.Common.{◌∙◌, ◌≡◌, ◌+◌, ℕ, ap, sym, subst, arith, Option, Some}
use Rattle.exact_field.specs.Rational.{zero_ℚ, ◌<ℚ◌}
use Rattle.tableaux.specs.Table.{at, equation_count, second_cost, unknown_count}
use Rattle.exact_simplex.proofs.Results.{none_some}
use Rattle.exact_simplex.specs.Phase.{IsPhaseEnd}
use Rattle.lin_rows.specs.System.{system_of}
use Rattle.exact_simplex.proofs.Programs.{system_ok, equation_count_is}
use Rattle.exact_simplex.proofs.SolvingEnds.{phase_best, without_limit}
use Rattle.exact_simplex.proofs.solve.read_end.Goals as goal

pub read_optimal-requires-clause-best : goal.read_optimal-requires-clause-best
read_optimal-requires-clause-best g c =
    let value = g.F.Field.value in
    let p = c.args.system.now in
    let s = system_of value p in
    let t = c.args.tableau.now in
    let row : p.rows + 1 + 1 ≡ second_cost s = omega (arith, equation_count_is value p c.requires.lengths) in
    phase_best value s (system_ok value p c.requires.lengths) t (p.rows + 1) (second_cost s) row
    (subst (λ (o : Option ℕ). IsPhaseEnd (equation_count s) (p.rows + 1) (unknown_count s) t.table o) c.in-None.is c.requires.end)

pub read_unbounded-requires-clause-low : goal.read_unbounded-requires-clause-low
read_unbounded-requires-clause-low g c =
    let s = system_of g.F.Field.value c.args.system.now in
    let end : IsPhaseEnd (equation_count s) (c.args.system.now.rows + 1) (unknown_count s) c.args.tableau.now.table (Some c.in-Some.col) =
    subst (λ (o : Option ℕ). IsPhaseEnd (equation_count s) (c.args.system.now.rows + 1) (unknown_count s) c.args.tableau.now.table o) c.in-Some.is c.requires.end in
    end.0

pub read_unbounded-requires-clause-high : goal.read_unbounded-requires-clause-high
read_unbounded-requires-clause-high g c =
    let s = system_of g.F.Field.value c.args.system.now in
    let end : IsPhaseEnd (equation_count s) (c.args.system.now.rows + 1) (unknown_count s) c.args.tableau.now.table (Some c.in-Some.col) =
    subst (λ (o : Option ℕ). IsPhaseEnd (equation_count s) (c.args.system.now.rows + 1) (unknown_count s) c.args.tableau.now.table o) c.in-Some.is c.requires.end in
    end.1

pub read_unbounded-requires-clause-betters : goal.read_unbounded-requires-clause-betters
read_unbounded-requires-clause-betters g c =
    let value = g.F.Field.value in
    let p = c.args.system.now in
    let s = system_of value p in
    let t = c.args.tableau.now in
    let row : p.rows + 1 + 1 ≡ second_cost s = omega (arith, equation_count_is value p c.requires.lengths) in
    let end : IsPhaseEnd (equation_count s) (p.rows + 1) (unknown_count s) t.table (Some c.in-Some.col) =
    subst (λ (o : Option ℕ). IsPhaseEnd (equation_count s) (p.rows + 1) (unknown_count s) t.table o) c.in-Some.is c.requires.end in
    subst (λ (r : ℕ). at t.table r c.in-Some.col <ℚ zero_ℚ) row end.2

pub read_unbounded-requires-clause-unlimited : goal.read_unbounded-requires-clause-unlimited
read_unbounded-requires-clause-unlimited g c =
    let value = g.F.Field.value in
    let p = c.args.system.now in
    let s = system_of value p in
    let t = c.args.tableau.now in
    without_limit value s (system_ok value p c.requires.lengths) t (p.rows + 1) c.in-Some.col (ap (λ n. n + 1) (sym (equation_count_is value p c.requires.lengths)))
    (subst (λ (o : Option ℕ). IsPhaseEnd (equation_count s) (p.rows + 1) (unknown_count s) t.table o) c.in-Some.is c.requires.end)

pub returns-in-None-clause-basis : goal.returns-in-None-clause-basis
returns-in-None-clause-basis g c = λ none. c.read_optimal.ensures.basis

pub returns-in-Some-clause-basis : goal.returns-in-Some-clause-basis
returns-in-Some-clause-basis g c = λ none. absurd (none_some c.in-Some.col (sym none ∙ c.in-Some.is))
