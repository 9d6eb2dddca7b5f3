use Rattle.std.proofs.Common.{sym, subst, ap, ◌∙◌, ◌≤◌, List, length, All}
use Rattle.vlp_matrices.specs.Matrices.{cells_from}
use Rattle.vlp_problem.specs.declared.problem.Cell.{Cell}
use Rattle.vlp_matrices.proofs.Cells.{each_cell, cells_from-are}
use Rattle.vlp_matrices.proofs.matrices.Matrix.of_rows.Goals as goal

pub spots_by-requires-clause-from_one : goal.spots_by-requires-clause-from_one
spots_by-requires-clause-from_one c = subst (λ (cs : List Cell). All (λ d. 1 ≤ d.col) cs) (sym (c.as_slice-2.ensures.items ∙ c.in_ok-cells.ensures ∙ ap (cells_from 1) c.as_slice.ensures.items))
    (each_cell (λ d. 1 ≤ d.col) (length c.args.rows) c.args.cols 0 0 (cells_from 1 c.args.rows) (cells_from-are c.args.cols c.args.rows c.requires.vectors) (λ d a b e f. e))

pub spots_by-requires-clause-to_end : goal.spots_by-requires-clause-to_end
spots_by-requires-clause-to_end c = subst (λ (cs : List Cell). All (λ d. d.col ≤ c.args.cols) cs) (sym (c.as_slice-2.ensures.items ∙ c.in_ok-cells.ensures ∙ ap (cells_from 1) c.as_slice.ensures.items))
    (each_cell (λ d. d.col ≤ c.args.cols) (length c.args.rows) c.args.cols 0 0 (cells_from 1 c.args.rows) (cells_from-are c.args.cols c.args.rows c.requires.vectors) (λ d a b e f. f))
