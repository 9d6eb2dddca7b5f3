use Rattle.std.proofs.Common.{length, map}
use Rattle.std.specs.List.{zip}
use Rattle.upper_image.specs.Spots.{dense}
use Rattle.entry_checks.specs.Parts.{balance_events}
use Rattle.entry_checks.proofs.Going.{IsAt}
use Rattle.entry_checks.proofs.cut.are_balanced.Given as goal

abbrev pub invariant-loop-j : goal.invariant-loop-j
invariant-loop-j l =
    IsAt (λ p. balance_events p.0 p.1 l.fn.u l.fn.w) (zip (map (dense (length l.fn.u)) l.fn.sides) (map (dense (length l.fn.w)) l.fn.objectives))
    l.fn.counter.taken l.j l.counter.taken
