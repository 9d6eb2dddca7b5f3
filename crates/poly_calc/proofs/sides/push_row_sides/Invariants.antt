use Rattle.std.proofs.Common.{◌≡◌, ◌+◌, ◌*◌, ◌≤◌, ◌++◌, take, length}
use Rattle.vlp_problem.specs.Sides.{row_vector, sides_from}
use Rattle.poly_calc.specs.Made.{side_rows}
use Rattle.poly_calc.proofs.sides.push_row_sides.Given as goal

abbrev pub invariant-loop-i : goal.invariant-loop-i
invariant-loop-i l = record {
  few : l.next ≤ l.from + 2 * l.i;
  next : l.next ≡ l.from + length (sides_from (row_vector l.problem) 1 (take l.i l.problem.row_bounds));
  cells : l.cells ≡ l.initial.cells ++ side_rows l.from l.columns.first l.columns.multiplier (sides_from (row_vector l.problem) 1 (take l.i l.problem.row_bounds));
}
