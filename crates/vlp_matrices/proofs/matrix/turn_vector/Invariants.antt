use Rattle.std.proofs.Common.{◌≡◌, map, take}
use Rattle.vlp_matrices.specs.Matrices.{turned_spot}
use Rattle.vlp_matrices.proofs.matrix.turn_vector.Given as goal

abbrev pub invariant-loop-spot : goal.invariant-loop-spot
invariant-loop-spot l = l.copy ≡ map (turned_spot l.dir) (take l.spot-index l.spots)
