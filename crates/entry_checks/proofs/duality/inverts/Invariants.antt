use Rattle.std.specs.List.{enumerate_from}
use Rattle.upper_image.specs.Shows.{picked}
use Rattle.upper_image.specs.Spots.{pieces}
use Rattle.entry_checks.specs.Parts.{units_events}
use Rattle.entry_checks.proofs.Going.{IsAt}
use Rattle.entry_checks.proofs.duality.inverts.Given as goal

abbrev pub invariant-loop-a : goal.invariant-loop-a
invariant-loop-a l =
    IsAt (λ a. units_events (picked l.fn.vectors l.fn.picks) a.0 a.1) (enumerate_from 1 (pieces l.fn.objs l.fn.objs l.fn.inverse)) l.fn.counter.taken l.a l.counter.taken
