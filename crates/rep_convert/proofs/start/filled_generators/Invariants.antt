use Rattle.std.proofs.Common.{◌≡◌, map, take}
use Rattle.lineality.specs.Without.{with_zeros}
use Rattle.polyhedra.specs.LiveList.{vectors}
use Rattle.rep_convert.proofs.start.filled_generators.Given as goal

abbrev pub invariant-loop-number : goal.invariant-loop-number
invariant-loop-number l = l.gens ≡ map (with_zeros l.places) (take l.number-index (vectors l.dd.list.live))
