use Rattle.std.proofs.Common.{◌≡◌, ◌+◌, ◌++◌, take}
use Rattle.poly_calc.specs.Made.{row_cells}
use Rattle.poly_calc.proofs.sides.push_entries.Given as goal

abbrev pub invariant-loop-value : goal.invariant-loop-value
invariant-loop-value l = record {
  place : l.at ≡ l.col + l.value-index;
  cells : l.cells ≡ l.initial.cells ++ row_cells l.row l.col (take l.value-index l.vector);
}
