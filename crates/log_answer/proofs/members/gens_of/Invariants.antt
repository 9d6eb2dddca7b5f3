use Rattle.std.proofs.Common.{◌≡◌, ◌++◌, map}
use Rattle.std.specs.Vec.Iter.{into_iter_items}
use Rattle.log_answer.specs.Members.{shown_of}
use Rattle.log_answer.proofs.members.gens_of.Given as goal

abbrev pub invariant-loop-member : goal.invariant-loop-member
invariant-loop-member l = l.list ++ map shown_of (into_iter_items l.member-iterator) ≡ map shown_of l.fn.members
