use Rattle.std.proofs.Common.{◌≡◌, ◌++◌, take}
use Rattle.poly_calc.specs.Made.{negated_row}
use Rattle.poly_calc.proofs.cells.push_negatives.Given as goal

abbrev pub invariant-loop-cell : goal.invariant-loop-cell
invariant-loop-cell l = l.cells ≡ l.initial.cells ++ negated_row l.row l.cols (take l.cell-index l.more)
