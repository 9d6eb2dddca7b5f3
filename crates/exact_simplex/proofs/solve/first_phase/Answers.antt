use Rattle.std.proofs.Common.{◌≡◌, ◌∙◌, ◌+◌, ℕ, IsTrue, ap₂, sym, subst, arith, Option}
use Rattle.std.specs.Prelude.{◌↔◌}
use Rattle.exact_field.specs.Rational.{ℚ, zero_ℚ, ◌<ℚ◌}
use Rattle.tableaux.specs.Table.{at, equation_count, first_cost, unknown_count}
use Rattle.exact_simplex.specs.Phase.{IsPhaseEnd}
use Rattle.lin_rows.specs.System.{system_of}
use Rattle.exact_simplex.proofs.Programs.{system_ok, equation_count_is}
use Rattle.exact_simplex.proofs.Readings.{row_there}
use Rattle.exact_simplex.proofs.SolvingEnds.{phase_one_limited, phase_best}
use Rattle.exact_simplex.proofs.solve.first_phase.Goals as goal

pub entry-requires-clause-inside : goal.entry-requires-clause-inside
entry-requires-clause-inside g c =
    let value = g.F.Field.value in
    let p = c.args.system.now in
    omega (arith, row_there value p c.requires.lengths c.in_ok-tableau.tableau c.in_ok-tableau.ensures.primal.held p.rows (omega arith))

pub entry-requires-clause-low : goal.entry-requires-clause-low
entry-requires-clause-low g c = omega (arith, c.width.ensures, c.in_ok-tableau.ensures.primal.held.width)

pub entry-requires-clause-high : goal.entry-requires-clause-high
entry-requires-clause-high g c = omega (arith, c.width.ensures)

pub unreachable-requires : goal.unreachable-requires
unreachable-requires g c =
    let value = g.F.Field.value in
    let p = c.args.system.now in
    let s = system_of value p in
    let t = c.in_ok-tableau.tableau in
    phase_one_limited value s (system_ok value p c.requires.lengths) t c.in_ok-tableau.ensures.primal p.rows c.in-Some.field-0 (sym (equation_count_is value p c.requires.lengths))
    (subst (λ (o : Option ℕ). IsPhaseEnd (equation_count s) p.rows (unknown_count s) t.table o) c.in-Some.is c.in_ok-tableau.ensures.end)

pub returns-clause-best : goal.returns-clause-best
returns-clause-best g c =
    let value = g.F.Field.value in
    let p = c.args.system.now in
    let s = system_of value p in
    let t = c.in_ok-tableau.tableau in
    let row : p.rows + 1 ≡ first_cost s = omega (arith, equation_count_is value p c.requires.lengths) in
    phase_best value s (system_ok value p c.requires.lengths) t p.rows (first_cost s) row
    (subst (λ (o : Option ℕ). IsPhaseEnd (equation_count s) p.rows (unknown_count s) t.table o) c.in-None.is c.in_ok-tableau.ensures.end)

pub returns-clause-below : goal.returns-clause-below
returns-clause-below g c =
    let value = g.F.Field.value in
    let p = c.args.system.now in
    let s = system_of value p in
    let t = c.in_ok-tableau.tableau in
    let row : p.rows + 1 ≡ first_cost s = omega (arith, equation_count_is value p c.requires.lengths) in
    let entry = c.entry.ensures ∙ ap₂ (λ r k. at t.table r k) row (c.width.ensures ∙ c.in_ok-tableau.ensures.primal.held.width) in
    subst (λ (q : ℚ). IsTrue c.is_negative-below.result ↔ (q <ℚ zero_ℚ)) entry c.is_negative-below.ensures.fact
