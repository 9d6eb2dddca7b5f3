use Rattle.std.proofs.Common.{◌≡◌, map}
use Rattle.vlp_problem.specs.Sides.{numbers_from}
use Rattle.vlp_matrices.specs.Matrices.{unit_spots}
use Rattle.vlp_matrices.proofs.matrix.units.Given as goal

abbrev pub invariant-loop-before : goal.invariant-loop-before
invariant-loop-before l = l.lists.items ≡ map unit_spots (numbers_from 1 l.before)
