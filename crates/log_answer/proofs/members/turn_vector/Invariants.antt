use Rattle.std.proofs.Common.{◌≡◌, map, take}
use Rattle.upper_image.specs.UpperImage.{signed}
use Rattle.log_answer.proofs.members.turn_vector.Given as goal

abbrev pub invariant-loop-x : goal.invariant-loop-x
invariant-loop-x l = l.entries ≡ map (signed l.fn.dir) (take l.x-index l.v)
