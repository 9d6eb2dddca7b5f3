use Rattle.std.proofs.Common.{◌≡◌, ◌+◌, ℕ, List, ◌++◌, sym, ap, ◌∙◌, arith, append_assoc}
use Rattle.std.specs.List.{flat_map}
use Rattle.vlp_problem.specs.Sides.{numbers_from}
use Rattle.vlp_problem.specs.declared.problem.Cell.{Cell}
use Rattle.poly_calc.specs.Made.{sum_row}
use Rattle.poly_calc.proofs.Blocks.{rows-more}
use Rattle.poly_calc.proofs.sum.push_sum_rows.Goals as goal

pub loop-before-preserved : goal.loop-before-preserved
loop-before-preserved c =
    let n = c.loop-before.before in
    let row : ℕ → List Cell = sum_row c.args.count in
    let number : n + 1 ≡ 1 + n = omega arith in
    c.in_ok-push_sum_row.ensures ∙ ap (λ (cs : List Cell). cs ++ row (n + 1)) c.loop-before.invariant
    ∙ append_assoc c.args.cells.now (flat_map row (numbers_from 1 n)) (row (n + 1))
    ∙ ap (λ (cs : List Cell). c.args.cells.now ++ cs) (ap (λ (k : ℕ). flat_map row (numbers_from 1 n) ++ row k) number ∙ sym (rows-more row 1 n))
