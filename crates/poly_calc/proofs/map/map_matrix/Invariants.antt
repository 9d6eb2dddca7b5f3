use Rattle.std.proofs.Common.{◌≡◌}
use Rattle.std.specs.List.{flat_map}
use Rattle.vlp_problem.specs.Sides.{numbers_from}
use Rattle.poly_calc.specs.Made.{value_row}
use Rattle.poly_calc.proofs.map.map_matrix.Given as goal

abbrev pub invariant-loop-before : goal.invariant-loop-before
invariant-loop-before l = l.cells ≡ flat_map (value_row l.a) (numbers_from 1 l.before)
