use Rattle.vlp_problem.specs.Sides.{row_vector, unit, sides_from}
use Rattle.poly_calc.proofs.SideLists.{rows_then}
use Rattle.poly_calc.proofs.sides.push_sides.Goals as goal

pub returns-clause-cells : goal.returns-clause-cells
returns-clause-cells c =
    let p = c.args.problem.now in
    rows_then c.args.cells.now c.push_row_sides.new.cells c.push_col_sides.new.cells c.args.from c.in_ok-middle.middle c.args.columns.first c.args.columns.multiplier
    (sides_from (row_vector p) 1 p.row_bounds) (sides_from (unit p.cols) 1 p.col_bounds) c.in_ok-next.ensures.cells c.in_ok-middle.ensures.cells c.in_ok-middle.ensures.next
