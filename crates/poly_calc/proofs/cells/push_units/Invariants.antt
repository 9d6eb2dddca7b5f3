use Rattle.std.proofs.Common.{◌≡◌, ◌++◌}
use Rattle.poly_calc.specs.Made.{unit_cells}
use Rattle.poly_calc.proofs.cells.push_units.Given as goal

abbrev pub invariant-loop-before : goal.invariant-loop-before
invariant-loop-before l = l.cells ≡ l.initial.cells ++ unit_cells l.rows l.before
