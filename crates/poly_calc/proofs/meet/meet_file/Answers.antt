use Rattle.std.proofs.Common.{◌+◌, ◌++◌, IsTrue, sym, subst, List}
use Rattle.vlp_problem.specs.Cells.{are_cells}
use Rattle.vlp_problem.specs.declared.problem.Cell.{Cell}
use Rattle.poly_calc.specs.Made.{meet_cells}
use Rattle.poly_calc.proofs.Blocks.{meet_block}
use Rattle.poly_calc.proofs.Parts.{same_parts}
use Rattle.poly_calc.proofs.FeasibleMeet.{meet_projects}
use Rattle.poly_calc.proofs.meet.meet_file.Goals as goal

pub problem_of-requires-clause-cells : goal.problem_of-requires-clause-cells
problem_of-requires-clause-cells c =
    let a = c.args.a.now in
    let b = c.args.b.now in
    subst (λ (cs : List Cell). IsTrue (are_cells (a.rows + b.rows + b.cols) a.cols cs)) (sym c.in_ok-cells.ensures) (meet_block a b c.requires.columns)

pub returns-clause-set : goal.returns-clause-set
returns-clause-set c =
    let a = c.args.a.now in
    let b = c.args.b.now in
    meet_projects a b c.problem_of.result c.requires.columns
    (same_parts c.problem_of.result (a.rows + b.rows + b.cols) a.cols c.in_ok-cells.cells (meet_cells a b) c.in_ok-bounds.bounds.rows (a.row_bounds ++ (b.row_bounds ++ b.col_bounds))
    c.in_ok-bounds.bounds.cols a.col_bounds c.problem_of.ensures c.in_ok-cells.ensures c.in_ok-bounds.ensures.rows c.in_ok-bounds.ensures.cols)
