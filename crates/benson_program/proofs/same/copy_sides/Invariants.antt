use Rattle.std.proofs.Common.{◌≡◌, take}
use Rattle.benson_program.proofs.same.copy_sides.Given as goal

abbrev pub invariant-loop-side : goal.invariant-loop-side
invariant-loop-side g l = l.copies ≡ take l.side-index l.sides
