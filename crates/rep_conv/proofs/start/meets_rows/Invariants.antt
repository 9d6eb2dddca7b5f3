use Rattle.std.proofs.Common.{ℕ, ◌==◌}
use Rattle.std.specs.List.{enumerate_from}
use Rattle.entry_checks.specs.Parts.{corner_events}
use Rattle.entry_checks.proofs.Going.{IsAt}
use Rattle.rep_conv.specs.Rows.{row_at}
use Rattle.rep_conv.proofs.start.meets_rows.Given as goal

abbrev pub invariant-loop-i : goal.invariant-loop-i
invariant-loop-i l = IsAt (λ (row : ℕ × ℕ). corner_events (row_at l.fn.rep row.1) (row.0 == l.fn.number) l.fn.generator) (enumerate_from 1 l.fn.named) l.fn.counter.taken l.i l.counter.taken
