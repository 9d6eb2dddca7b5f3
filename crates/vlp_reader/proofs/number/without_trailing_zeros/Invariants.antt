use Rattle.std.proofs.Common.{◌≡◌, ◌≤◌, length, take}
use Rattle.vlp_reader.specs.Number.{without_trailing_zeros}
use Rattle.vlp_reader.proofs.number.without_trailing_zeros.Given as goal

abbrev pub invariant-loop-end : goal.invariant-loop-end
invariant-loop-end l = (without_trailing_zeros (take l.end l.digits) ≡ without_trailing_zeros l.digits) × (l.end ≤ length l.digits)

abbrev pub decreases-loop-end : goal.decreases-loop-end
decreases-loop-end l = l.end
