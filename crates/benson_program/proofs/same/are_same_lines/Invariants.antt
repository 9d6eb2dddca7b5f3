use Rattle.std.proofs.Common.{◌≡◌, length, take}
use Rattle.benson_program.proofs.same.are_same_lines.Given as goal

abbrev pub invariant-loop-line : goal.invariant-loop-line
invariant-loop-line g l = take (length l.yielded) l.one ≡ take (length l.yielded) l.other
