use Rattle.std.proofs.Common.{All, sym, subst}
use Rattle.poly_calc.specs.Made.{IsNear}
use Rattle.poly_calc.proofs.Blocks.{near}
use Rattle.poly_calc.proofs.sum.sum_matrix.Goals as goal

pub push_moved-requires-clause-near : goal.push_moved-requires-clause-near
push_moved-requires-clause-near c = subst (All IsNear) (sym c.as_slice.ensures.items)
    (near c.args.a.now.rows c.args.a.now.cols c.args.a.now.a c.args.a.now.a_cells c.args.a.now.rows_bounded c.args.a.now.cols_bounded)

pub push_moved-requires-2-clause-near : goal.push_moved-requires-2-clause-near
push_moved-requires-2-clause-near c = subst (All IsNear) (sym c.as_slice-2.ensures.items)
    (near c.args.b.now.rows c.args.b.now.cols c.args.b.now.a c.args.b.now.a_cells c.args.b.now.rows_bounded c.args.b.now.cols_bounded)
