use Rattle.entry_checks.specs.Parts.{row_events}
use Rattle.entry_checks.proofs.Going.{IsAt}
use Rattle.entry_checks.proofs.duality.meets_rows.Given as goal

abbrev pub invariant-loop-row : goal.invariant-loop-row
invariant-loop-row l = IsAt (row_events l.fn.c) l.fn.rows l.fn.counter.taken l.row-index l.counter.taken
