use Rattle.entry_checks.proofs.Going.{IsAt}
use Rattle.rep_conv.specs.Events.{tight_events}
use Rattle.rep_conv.proofs.line.are_tight.Given as goal

abbrev pub invariant-loop-row : goal.invariant-loop-row
invariant-loop-row l = IsAt (tight_events l.fn.d) l.fn.rows l.fn.counter.taken l.row-index l.counter.taken
