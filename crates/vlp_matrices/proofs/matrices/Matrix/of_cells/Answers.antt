use Rattle.std.proofs.Common.{◌≤◌}
use Rattle.vlp_matrices.proofs.Cells.{each_cell}
use Rattle.vlp_matrices.proofs.matrices.Matrix.of_cells.Goals as goal

pub spots_by-requires-clause-from_one : goal.spots_by-requires-clause-from_one
spots_by-requires-clause-from_one c = each_cell (λ d. 1 ≤ d.row) c.args.rows c.args.cols 0 0 c.args.cells.now c.requires.cells (λ d a b e f. a)

pub spots_by-requires-clause-to_end : goal.spots_by-requires-clause-to_end
spots_by-requires-clause-to_end c = each_cell (λ d. d.row ≤ c.args.rows) c.args.rows c.args.cols 0 0 c.args.cells.now c.requires.cells (λ d a b e f. b)

pub spots_by-requires-2-clause-from_one : goal.spots_by-requires-2-clause-from_one
spots_by-requires-2-clause-from_one c = each_cell (λ d. 1 ≤ d.col) c.args.rows c.args.cols 0 0 c.args.cells.now c.requires.cells (λ d a b e f. e)

pub spots_by-requires-2-clause-to_end : goal.spots_by-requires-2-clause-to_end
spots_by-requires-2-clause-to_end c = each_cell (λ d. d.col ≤ c.args.cols) c.args.rows c.args.cols 0 0 c.args.cells.now c.requires.cells (λ d a b e f. f)
