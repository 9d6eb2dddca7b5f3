use Rattle.std.proofs.Common.{◌≡◌, ◌+◌, length, None}
use Rattle.tableaux.specs.Table.{row_of}
use Rattle.tableaux.specs.Lex.{entries_at}
use Rattle.tableaux.proofs.Remaining.{remaining, cost_at, all_lists}
use Rattle.exact_simplex.specs.Phase.{IsMoved, IsPhaseEnd, IsTurn}
use Rattle.exact_simplex.proofs.phase.run_phase.Given as goal

abbrev pub invariant-loop-col : goal.invariant-loop-col
invariant-loop-col g l =
    let before = l.initial.tableau in
    record {
      turn : IsTurn l.equations l.columns before l.tableau;
      moved : IsMoved l.equations l.unknowns before l.tableau;
      still : IsPhaseEnd l.equations l.cost l.unknowns before.table None → l.tableau ≡ before;
    }

abbrev pub decreases-loop-col : goal.decreases-loop-col
decreases-loop-col g l =
    let before = l.initial.tableau in
    remaining (cost_at before.width before.table (l.cost + 1) l.columns) (all_lists (length before.table) before.width) (entries_at l.columns (row_of l.tableau.table (l.cost + 1)))
