use Rattle.std.proofs.Common.{◌≡◌, ◌+◌, ℕ, sym, subst, arith, take}
use Rattle.tableaux.specs.Table.{second_cost}
use Rattle.tableaux.specs.Simplex.{IsBest}
use Rattle.lin_rows.specs.Tableau.{Dictionary}
use Rattle.exact_simplex.specs.Hint.{IsOptimalEnd}
use Rattle.lin_rows.specs.System.{system_of}
use Rattle.exact_simplex.proofs.Programs.{system_ok, equation_count_is}
use Rattle.exact_simplex.proofs.SolvingEnds.{feasible_primal, idle_feasible}
use Rattle.exact_simplex.proofs.solve.second_phase.Goals as goal

pub optimize-requires-clause-primal : goal.optimize-requires-clause-primal
optimize-requires-clause-primal g c =
    let value = g.F.Field.value in
    let p = c.args.system.now in
    feasible_primal value (system_of value p) (system_ok value p c.requires.lengths) c.args.tableau c.requires.feasible

pub read_end-requires-clause-feasible : goal.read_end-requires-clause-feasible
read_end-requires-clause-feasible g c =
    let value = g.F.Field.value in
    let p = c.args.system.now in
    let ok = c.in_ok-tableau.ensures in
    idle_feasible value (system_of value p) (system_ok value p c.requires.lengths) c.in_ok-tableau.tableau ok.primal (ok.idle c.requires.idle)

pub read_end-requires-clause-end : goal.read_end-requires-clause-end
read_end-requires-clause-end g c = c.in_ok-tableau.ensures.end

pub returns-clause-last : goal.returns-clause-last
returns-clause-last g c =
    let value = g.F.Field.value in
    let p = c.args.system.now in
    let ok = c.in_ok-tableau.ensures in
    record {
      lengths = c.requires.lengths;
      feasible = idle_feasible value (system_of value p) (system_ok value p c.requires.lengths) c.in_ok-tableau.tableau ok.primal (ok.idle c.requires.idle);
      idle = ok.idle c.requires.idle;
    }

pub returns-clause-still : goal.returns-clause-still
returns-clause-still g c =
    let value = g.F.Field.value in
    let p = c.args.system.now in
    let s = system_of value p in
    let row : p.rows + 1 + 1 ≡ second_cost s = omega (arith, equation_count_is value p c.requires.lengths) in
    λ best.
    let still = c.in_ok-tableau.ensures.still (subst (λ (r : ℕ). IsBest s r c.args.tableau.table) (sym row) best) in
    subst (λ (t : Dictionary). IsOptimalEnd (λ b. b ≡ take p.rows t.basis) c.in_ok-end.end) still.1 (c.in_ok-end.ensures.basis still.0)
