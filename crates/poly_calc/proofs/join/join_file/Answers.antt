use Rattle.std.proofs.Common.{◌≡◌, ℕ, ◌+◌, IsTrue, sym, ap₂, ◌∙◌, subst, List, length}
use Rattle.vlp_problem.specs.Cells.{are_cells}
use Rattle.vlp_problem.specs.Sides.{sides}
use Rattle.vlp_problem.specs.declared.problem.Cell.{Cell}
use Rattle.poly_calc.specs.Made.{join_cells, join_row_bounds, join_col_bounds, IsMade}
use Rattle.poly_calc.proofs.JoinBlocks.{join_block}
use Rattle.poly_calc.proofs.Parts.{same_parts}
use Rattle.poly_calc.proofs.FeasibleJoin.{join_projects}
use Rattle.poly_calc.proofs.join.join_file.Goals as goal

row_number : (n p q r s : ℕ) → p ≡ r → q ≡ s → n + 1 + p + q ≡ n + 1 + r + s
row_number n p q r s e f = ap₂ (λ i j. n + 1 + i + j) e f

pub problem_of-requires-clause-cells : goal.problem_of-requires-clause-cells
problem_of-requires-clause-cells c =
    let a = c.args.a.now in
    let b = c.args.b.now in
    let j = c.in_ok-joined.joined in
    let s = c.in_ok-joined.ensures in
    subst (λ (rows : ℕ). IsTrue (are_cells rows (a.cols + a.cols + a.cols + 2) j.cells))
    (sym (row_number a.cols j.first_sides j.second_sides (length (sides a)) (length (sides b)) s.first s.second))
    (subst (λ (cs : List Cell). IsTrue (are_cells (a.cols + 1 + length (sides a) + length (sides b)) (a.cols + a.cols + a.cols + 2) cs)) (sym s.cells) (join_block a b c.requires.columns))

pub returns-clause-set : goal.returns-clause-set
returns-clause-set c =
    let a = c.args.a.now in
    let b = c.args.b.now in
    let j = c.in_ok-joined.joined in
    let s = c.in_ok-joined.ensures in
    let bounds = c.in_ok-bounds.bounds in
    join_projects a b c.problem_of.result c.requires.columns c.requires.some_first c.requires.some_second
    (same_parts c.problem_of.result (a.cols + 1 + length (sides a) + length (sides b)) (a.cols + a.cols + a.cols + 2) j.cells (join_cells a b)
    bounds.rows (join_row_bounds a.cols (length (sides a)) (length (sides b))) bounds.cols (join_col_bounds a.cols)
    (subst (λ (rows : ℕ). IsMade c.problem_of.result rows (a.cols + a.cols + a.cols + 2) j.cells bounds.rows bounds.cols)
    (row_number a.cols j.first_sides j.second_sides (length (sides a)) (length (sides b)) s.first s.second) c.problem_of.ensures)
    s.cells (c.in_ok-bounds.ensures.rows ∙ ap₂ (λ p q. join_row_bounds a.cols p q) s.first s.second) c.in_ok-bounds.ensures.cols)
