use Rattle.std.proofs.Common.{◌≡◌, ◌≤◌, drop, length}
use Rattle.upper_image.specs.Spots.{dense}
use Rattle.entry_checks.proofs.image.spread.Given as goal

abbrev pub invariant-loop-left : goal.invariant-loop-left
invariant-loop-left l = record { places : l.left ≤ length l.spots; done : l.values.items ≡ dense l.n (drop l.left l.spots) }

abbrev pub decreases-loop-left : goal.decreases-loop-left
decreases-loop-left l = l.left
