use Rattle.std.proofs.Common.{◌≡◌, map, take}
use Rattle.vlp_problem.specs.Sides.{numbers_from}
use Rattle.vlp_matrices.specs.Matrices.{spots_in}
use Rattle.vlp_matrices.proofs.matrix.spots_by.Given as goal

abbrev pub invariant-loop-cell : goal.invariant-loop-cell
invariant-loop-cell l = l.lists.items ≡ map (spots_in l.axis l.dir (take l.cell-index l.cells)) (numbers_from 1 l.count)
