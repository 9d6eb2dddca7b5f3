use Rattle.std.proofs.Common.{◌+◌, ◌++◌, IsTrue, sym, subst, List, replicate}
use Rattle.exact_field.specs.Rational.{zero_ℚ}
use Rattle.vlp_problem.specs.Cells.{are_cells}
use Rattle.vlp_problem.specs.declared.problem.Bound.TheVariants.{Free, Fixed}
use Rattle.vlp_problem.specs.declared.problem.Cell.{Cell}
use Rattle.poly_calc.specs.Made.{map_cells}
use Rattle.poly_calc.proofs.Blocks.{map_block}
use Rattle.poly_calc.proofs.Parts.{same_parts}
use Rattle.poly_calc.proofs.FeasibleMap.{map_projects}
use Rattle.poly_calc.proofs.map.map_file.Goals as goal

pub problem_of-requires-clause-cells : goal.problem_of-requires-clause-cells
problem_of-requires-clause-cells c =
    let a = c.args.a.now in
    subst (λ (cs : List Cell). IsTrue (are_cells (a.objs + a.rows) (a.objs + a.cols) cs)) (sym c.in_ok-cells.ensures) (map_block a)

pub returns-clause-set : goal.returns-clause-set
returns-clause-set c =
    let a = c.args.a.now in
    map_projects a c.problem_of.result
    (same_parts c.problem_of.result (a.objs + a.rows) (a.objs + a.cols) c.in_ok-cells.cells (map_cells a) c.in_ok-bounds.bounds.rows (replicate a.objs (Fixed zero_ℚ) ++ a.row_bounds)
    c.in_ok-bounds.bounds.cols (replicate a.objs Free ++ a.col_bounds) c.problem_of.ensures c.in_ok-cells.ensures c.in_ok-bounds.ensures.rows c.in_ok-bounds.ensures.cols)
