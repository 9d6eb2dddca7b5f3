use Rattle.std.proofs.Common.{◌≡◌, length, take}
use Rattle.benson_program.proofs.same.are_same_sides.Given as goal

abbrev pub invariant-loop-side : goal.invariant-loop-side
invariant-loop-side g l = take (length l.yielded) l.one ≡ take (length l.yielded) l.other
