use Rattle.std.proofs.Common.{◌≡◌, length, take}
use Rattle.benson_program.proofs.same.is_same_vector.Given as goal

abbrev pub invariant-loop-x : goal.invariant-loop-x
invariant-loop-x g l = take (length l.yielded) l.one ≡ take (length l.yielded) l.other
