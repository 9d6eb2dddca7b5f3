use Rattle.std.proofs.Common.{length, map}
use Rattle.std.specs.List.{zip}
use Rattle.upper_image.specs.Spots.{dense}
use Rattle.entry_checks.specs.Parts.{side_events}
use Rattle.entry_checks.proofs.Going.{IsAt}
use Rattle.entry_checks.proofs.image.meets_sides.Given as goal

abbrev pub invariant-loop-i : goal.invariant-loop-i
invariant-loop-i l =
    IsAt (λ p. side_events p.0 l.fn.x p.1) (zip (map (dense (length l.fn.x)) l.fn.rows) l.fn.bounds) l.fn.counter.taken l.i l.counter.taken
