use Rattle.std.proofs.Common.{◌≡◌, ◌+◌, ℕ, List, ◌++◌, All, sym, ap, ◌∙◌, subst, arith}
use Rattle.std.specs.List.{flat_map}
use Rattle.vlp_problem.specs.Sides.{numbers_from}
use Rattle.vlp_problem.specs.declared.problem.Cell.{Cell}
use Rattle.poly_calc.specs.Made.{value_row, IsNear}
use Rattle.poly_calc.proofs.Blocks.{near, rows-more}
use Rattle.poly_calc.proofs.map.map_matrix.Goals as goal

pub loop-before-preserved : goal.loop-before-preserved
loop-before-preserved c =
    let number : c.loop-before.before + 1 ≡ 1 + c.loop-before.before = omega arith in
    c.in_ok-push_value_row.ensures ∙ ap (λ (cs : List Cell). cs ++ value_row c.args.a.now (c.loop-before.before + 1)) c.loop-before.invariant
    ∙ ap (λ (n : ℕ). flat_map (value_row c.args.a.now) (numbers_from 1 c.loop-before.before) ++ value_row c.args.a.now n) number ∙ sym (rows-more (value_row c.args.a.now) 1 c.loop-before.before)

pub push_moved-requires-clause-near : goal.push_moved-requires-clause-near
push_moved-requires-clause-near c = subst (All IsNear) (sym c.as_slice.ensures.items)
    (near c.args.a.now.rows c.args.a.now.cols c.args.a.now.a c.args.a.now.a_cells c.args.a.now.rows_bounded c.args.a.now.cols_bounded)
