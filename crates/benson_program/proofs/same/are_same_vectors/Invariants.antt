use Rattle.std.proofs.Common.{◌≡◌, length, take}
use Rattle.benson_program.proofs.same.are_same_vectors.Given as goal

abbrev pub invariant-loop-vector : goal.invariant-loop-vector
invariant-loop-vector g l = take (length l.yielded) l.one ≡ take (length l.yielded) l.other
