use Rattle.std.proofs.Common.{◌==◌}
use Rattle.std.specs.List.{enumerate_from}
use Rattle.upper_image.specs.Spots.{pieces}
use Rattle.entry_checks.specs.Parts.{corner_events}
use Rattle.entry_checks.proofs.Going.{IsAt}
use Rattle.entry_checks.proofs.corner.meets_directions.Given as goal

abbrev pub invariant-loop-a : goal.invariant-loop-a
invariant-loop-a l =
    IsAt (λ d. corner_events l.fn.w (d.0 == l.fn.number) d.1) (enumerate_from 1 (pieces l.fn.count l.fn.objs l.fn.directions)) l.fn.counter.taken l.a l.counter.taken
