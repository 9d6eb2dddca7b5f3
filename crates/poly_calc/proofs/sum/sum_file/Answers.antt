use Rattle.std.proofs.Common.{◌+◌, ◌++◌, IsTrue, sym, subst, List, replicate}
use Rattle.exact_field.specs.Rational.{zero_ℚ}
use Rattle.vlp_problem.specs.Cells.{are_cells}
use Rattle.vlp_problem.specs.declared.problem.Bound.TheVariants.{Free, Fixed}
use Rattle.vlp_problem.specs.declared.problem.Cell.{Cell}
use Rattle.poly_calc.specs.Made.{sum_cells}
use Rattle.poly_calc.proofs.Blocks.{sum_block}
use Rattle.poly_calc.proofs.Parts.{same_parts}
use Rattle.poly_calc.proofs.FeasibleSum.{sum_projects}
use Rattle.poly_calc.proofs.sum.sum_file.Goals as goal

pub problem_of-requires-clause-cells : goal.problem_of-requires-clause-cells
problem_of-requires-clause-cells c =
    let a = c.args.a.now in
    let b = c.args.b.now in
    subst (λ (cs : List Cell). IsTrue (are_cells (a.cols + a.rows + b.rows) (a.cols + a.cols + a.cols) cs)) (sym c.in_ok-cells.ensures) (sum_block a b c.requires.columns)

pub returns-clause-set : goal.returns-clause-set
returns-clause-set c =
    let a = c.args.a.now in
    let b = c.args.b.now in
    sum_projects a b c.problem_of.result c.requires.columns
    (same_parts c.problem_of.result (a.cols + a.rows + b.rows) (a.cols + a.cols + a.cols) c.in_ok-cells.cells (sum_cells a b) c.in_ok-bounds.bounds.rows
    (replicate a.cols (Fixed zero_ℚ) ++ (a.row_bounds ++ b.row_bounds)) c.in_ok-bounds.bounds.cols (replicate a.cols Free ++ (a.col_bounds ++ b.col_bounds))
    c.problem_of.ensures c.in_ok-cells.ensures c.in_ok-bounds.ensures.rows c.in_ok-bounds.ensures.cols)
