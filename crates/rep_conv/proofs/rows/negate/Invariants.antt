use Rattle.std.proofs.Common.{◌≡◌, take}
use Rattle.polyhedra.specs.Negatives.{negated}
use Rattle.rep_conv.proofs.rows.negate.Given as goal

abbrev pub invariant-loop-x : goal.invariant-loop-x
invariant-loop-x l = l.opposite ≡ negated (take l.x-index l.v)
