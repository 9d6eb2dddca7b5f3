use Rattle.std.proofs.Common.{◌==◌}
use Rattle.std.specs.List.{enumerate_from}
use Rattle.upper_image.specs.Shows.{picked}
use Rattle.entry_checks.specs.Parts.{unit_events}
use Rattle.entry_checks.proofs.Going.{IsAt}
use Rattle.entry_checks.proofs.duality.has_units.Given as goal

abbrev pub invariant-loop-b : goal.invariant-loop-b
invariant-loop-b l =
    IsAt (λ b. unit_events l.fn.row (l.fn.number == b.0) b.1) (enumerate_from 1 (picked l.fn.vectors l.fn.picks)) l.fn.counter.taken l.b l.counter.taken
