use Rattle.std.proofs.Common.{◌≡◌, ℕ, ◌+◌, ◌<◌, ◌≤◌, List, ◌++◌, take, length, slice_index_or, sym, ap, ◌∙◌, subst, arith}
use Rattle.exact_field.specs.Rational.{ℚ}
use Rattle.polyhedra.specs.Inequality.{Inequality}
use Rattle.vlp_problem.specs.Sides.{row_vector, sides_of, sides_from}
use Rattle.vlp_problem.specs.declared.problem.Bound.{Bound}
use Rattle.poly_calc.specs.Made.{side_rows}
use Rattle.poly_calc.proofs.Parts.{numbers_length}
use Rattle.poly_calc.proofs.SideLists.{rows_then, number_then, sides-more}
use Rattle.poly_calc.proofs.sides.push_row_sides.Goals as goal

pub push_bound-requires-clause-few : goal.push_bound-requires-clause-few
push_bound-requires-clause-few c =
    let width : length c.as_slice.result.now ≡ c.args.problem.now.cols = ap length (c.as_slice.ensures.items ∙ c.in_ok-normal.ensures) ∙ numbers_length _ 1 c.args.problem.now.cols in
    subst (λ (n : ℕ). n ≤ 1000) (sym width) c.requires.limits.cols

pub loop-i-preserved : goal.loop-i-preserved
loop-i-preserved c =
    let i = c.loop-i.i in
    let v : ℕ → List ℚ = row_vector c.args.problem.now in
    let bs = c.args.problem.now.row_bounds in
    let b = c.index-bounds-i.result in
    let before : List Inequality = sides_from v 1 (take i bs) in
    let more : List Inequality = sides_of (v (i + 1)) b in
    let all : sides_from v 1 (take (i + 1) bs) ≡ before ++ more =
    sides-more v bs b i (subst (λ (n : ℕ). i < n) (ap length c.as_slice-bounds.ensures.items) c.loop-i-test.true)
    (c.index-bounds-i.is ∙ ap (λ (xs : List Bound). slice_index_or xs i b) c.as_slice-bounds.ensures.items) in
    let added : sides_of c.as_slice.result.now b ≡ more = ap (λ (n : List ℚ). sides_of n b) (c.as_slice.ensures.items ∙ c.in_ok-normal.ensures) in
    record {
      few = let old = c.loop-i.invariant.few in let new = c.in_ok-next.ensures.few in omega (arith, old, new);
      next = number_then c.args.from c.loop-i.next c.in_ok-next.next before more (c.in_ok-next.ensures.next ∙ ap (λ es. c.loop-i.next + length es) added) c.loop-i.invariant.next
          ∙ ap (λ es. c.args.from + length es) (sym all);
      cells = rows_then c.args.cells.now c.loop-i.cells c.push_bound.new.cells c.args.from c.loop-i.next c.args.columns.first c.args.columns.multiplier before more
          (c.in_ok-next.ensures.cells ∙ ap (λ es. c.loop-i.cells ++ side_rows c.loop-i.next c.args.columns.first c.args.columns.multiplier es) added)
          c.loop-i.invariant.cells c.loop-i.invariant.next
          ∙ ap (λ es. c.args.cells.now ++ side_rows c.args.from c.args.columns.first c.args.columns.multiplier es) (sym all);
    }
