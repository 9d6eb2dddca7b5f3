use Rattle.std.proofs.Common.{All, sym, subst}
use Rattle.poly_calc.specs.Made.{IsNear}
use Rattle.poly_calc.proofs.Blocks.{near}
use Rattle.poly_calc.proofs.map.push_value_row.Goals as goal

pub push_negatives-requires-clause-near : goal.push_negatives-requires-clause-near
push_negatives-requires-clause-near c = subst (All IsNear) (sym c.as_slice.ensures.items)
    (near c.args.a.now.objs c.args.a.now.cols c.args.a.now.o c.args.a.now.o_cells c.args.a.now.objs_bounded c.args.a.now.cols_bounded)
