use Rattle.std.proofs.Common.{◌≡◌, length, take}
use Rattle.benson_program.proofs.same.is_same_line.Given as goal

abbrev pub invariant-loop-entry : goal.invariant-loop-entry
invariant-loop-entry g l = take (length l.yielded) l.one ≡ take (length l.yielded) l.other
