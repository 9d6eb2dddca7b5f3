use Rattle.std.specs.Vec.Iter.{into_iter_items}
use Rattle.log_answer.proofs.Rests.{ArePartsOf}
use Rattle.log_answer.proofs.members.split_members.Given as goal

abbrev pub invariant-loop-generator : goal.invariant-loop-generator
invariant-loop-generator l = ArePartsOf l.dir l.fn.generators.items (into_iter_items l.generator-iterator) l.points l.directions
