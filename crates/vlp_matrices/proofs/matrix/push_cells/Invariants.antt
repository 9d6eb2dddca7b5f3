use Rattle.std.proofs.Common.{◌≡◌, ◌++◌, take}
use Rattle.vlp_matrices.specs.Matrices.{row_cells}
use Rattle.vlp_matrices.proofs.matrix.push_cells.Given as goal

abbrev pub invariant-loop-spot : goal.invariant-loop-spot
invariant-loop-spot l = l.cells ≡ l.initial.cells ++ row_cells l.row (take l.spot-index l.spots)
