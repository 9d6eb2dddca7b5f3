use Rattle.std.proofs.Common.{◌≡◌, ◌++◌, take}
use Rattle.poly_calc.specs.Made.{moved}
use Rattle.poly_calc.proofs.cells.push_moved.Given as goal

abbrev pub invariant-loop-cell : goal.invariant-loop-cell
invariant-loop-cell l = l.cells ≡ l.initial.cells ++ moved l.rows l.cols (take l.cell-index l.more)
