use Rattle.std.proofs.Common.{◌≡◌, ◌++◌}
use Rattle.std.specs.List.{flat_map}
use Rattle.vlp_problem.specs.Sides.{numbers_from}
use Rattle.poly_calc.specs.Made.{sum_row}
use Rattle.poly_calc.proofs.sum.push_sum_rows.Given as goal

abbrev pub invariant-loop-before : goal.invariant-loop-before
invariant-loop-before l = l.cells ≡ l.initial.cells ++ flat_map (sum_row l.count) (numbers_from 1 l.before)
