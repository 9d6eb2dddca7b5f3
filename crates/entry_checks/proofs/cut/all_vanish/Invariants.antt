use Rattle.std.proofs.Common.{length, map}
use Rattle.upper_image.specs.Spots.{dense}
use Rattle.entry_checks.specs.Parts.{vanishing_events}
use Rattle.entry_checks.proofs.Going.{IsAt}
use Rattle.entry_checks.proofs.cut.all_vanish.Given as goal

abbrev pub invariant-loop-column : goal.invariant-loop-column
invariant-loop-column l = IsAt (vanishing_events l.fn.u) (map (dense (length l.fn.u)) l.fn.sides) l.fn.counter.taken l.column-index l.counter.taken
