use Rattle.std.proofs.Common.{All, sym, subst}
use Rattle.poly_calc.specs.Made.{IsNear}
use Rattle.poly_calc.proofs.Blocks.{near}
use Rattle.poly_calc.proofs.meet.meet_matrix.Goals as goal

pub push_moved-requires-clause-near : goal.push_moved-requires-clause-near
push_moved-requires-clause-near c = subst (All IsNear) (sym c.as_slice-2.ensures.items)
    (near c.args.b.now.rows c.args.b.now.cols c.args.b.now.a c.args.b.now.a_cells c.args.b.now.rows_bounded c.args.b.now.cols_bounded)
