-- What is feasible for the problem for both.
use Rattle.std.proofs.Common.{◌≡◌, ℕ, ◌+◌, ◌<◌, ◌≤◌, List, ◌++◌, length, All, sym, ap, ◌∙◌, subst, arith}
use Rattle.exact_field.specs.Rational.{ℚ}
use Rattle.exact_field.specs.Vector.{entry}
use Rattle.vlp_problem.specs.Sides.{IsFeasible}
use Rattle.vlp_problem.specs.declared.problem.Problem.{Problem}
use Rattle.poly_calc.specs.Sets.{IsInBoth}
use Rattle.poly_calc.specs.Made.{moved, unit_cells, meet_cells, IsMeet}
use Rattle.poly_calc.specs.Laws.{MeetProjects}
use Rattle.poly_calc.proofs.Sums.{cell_sum}
use Rattle.poly_calc.proofs.Bounds.{IsInBounds, in_bounds, of_bounds, within-append, within-left, within-right, within-same}
use Rattle.poly_calc.proofs.Parts.{Fits, fits, fitting, IsInside, inside, none_past, none_before, none_after, none_append, moved_at, left_part, right_part, none_units, unit_at, take-all}

module _ (a b : Problem) (u : ℕ → ℚ) where
  first_inside : All (IsInside a.rows a.cols) a.a
  first_inside = inside a.rows a.cols a.a a.a_cells

  second_inside : All (IsInside b.rows b.cols) b.a
  second_inside = inside b.rows b.cols b.a b.a_cells

  -- the rows of the first file, those of the second, and its columns
  first_rows : (i : ℕ) → i ≤ a.rows → cell_sum (meet_cells a b) i u ≡ cell_sum a.a i u
  first_rows i l = left_part a.a (moved a.rows 0 b.a ++ unit_cells (a.rows + b.rows) b.cols) i u
      (none_append (moved a.rows 0 b.a) (unit_cells (a.rows + b.rows) b.cols) i (none_before b.rows b.cols a.rows 0 i b.a second_inside l)
      (none_units (a.rows + b.rows) b.cols i (omega arith)))

  second_rows : (i k : ℕ) → 1 ≤ i → i ≤ b.rows → k ≡ i + a.rows → cell_sum (meet_cells a b) k u ≡ cell_sum b.a i u
  second_rows i k l h e = right_part a.a (moved a.rows 0 b.a ++ unit_cells (a.rows + b.rows) b.cols) k u (none_past a.rows a.cols k a.a first_inside (omega arith))
      ∙ left_part (moved a.rows 0 b.a) (unit_cells (a.rows + b.rows) b.cols) k u (none_units (a.rows + b.rows) b.cols k (omega arith))
      ∙ moved_at b.rows b.cols a.rows 0 i k b.a u u second_inside e (λ j _ _. ap u (none j))
    where
      none : (j : ℕ) → j + 0 ≡ j
      none j = omega arith

  unit_rows : (i k : ℕ) → 1 ≤ i → i ≤ b.cols → k ≡ (a.rows + b.rows) + i → cell_sum (meet_cells a b) k u ≡ u i
  unit_rows i k l h e = right_part a.a (moved a.rows 0 b.a ++ unit_cells (a.rows + b.rows) b.cols) k u (none_past a.rows a.cols k a.a first_inside (omega arith))
      ∙ right_part (moved a.rows 0 b.a) (unit_cells (a.rows + b.rows) b.cols) k u (none_after b.rows b.cols a.rows 0 k b.a second_inside (omega arith))
      ∙ unit_at (a.rows + b.rows) b.cols i k u e l h

module _ (a b made : Problem) (same : a.cols ≡ b.cols) (m : IsMeet a b made) (z : List ℚ) where
  first_same : (t : ℕ) → t < length a.row_bounds → cell_sum (meet_cells a b) (t + 1) (entry z) ≡ cell_sum a.a (t + 1) (entry z)
  first_same t l = first_rows a b (entry z) (t + 1) (bound (length a.row_bounds) a.row_count l)
    where
      bound : (k : ℕ) → k ≡ a.rows → t < k → t + 1 ≤ a.rows
      bound k e h = omega arith

  second_same : (t : ℕ) → t < length b.row_bounds → cell_sum (meet_cells a b) (t + (length a.row_bounds + 1)) (entry z) ≡ cell_sum b.a (t + 1) (entry z)
  second_same t l = second_rows a b (entry z) (t + 1) (t + (length a.row_bounds + 1)) (omega arith) (bound (length b.row_bounds) b.row_count l)
      (place (length a.row_bounds) a.row_count)
    where
      bound : (k : ℕ) → k ≡ b.rows → t < k → t + 1 ≤ b.rows
      bound k e h = omega arith

      place : (k : ℕ) → k ≡ a.rows → t + (k + 1) ≡ (t + 1) + a.rows
      place k e = omega arith

  third_same : (t : ℕ) → t < length b.col_bounds → cell_sum (meet_cells a b) (t + (length b.row_bounds + (length a.row_bounds + 1))) (entry z) ≡ entry z (t + 1)
  third_same t l = unit_rows a b (entry z) (t + 1) (t + (length b.row_bounds + (length a.row_bounds + 1))) (omega arith) (bound (length b.col_bounds) b.col_count l)
      (place (length a.row_bounds) (length b.row_bounds) a.row_count b.row_count)
    where
      bound : (k : ℕ) → k ≡ b.cols → t < k → t + 1 ≤ b.cols
      bound k e h = omega arith

      place : (k n : ℕ) → k ≡ a.rows → n ≡ b.rows → t + (n + (k + 1)) ≡ (a.rows + b.rows) + (t + 1)
      place k n e f = omega arith

  feasible_both : IsFeasible made z → IsInBoth a b z
  feasible_both h =
      let f : Fits a.cols (meet_cells a b) (a.row_bounds ++ (b.row_bounds ++ b.col_bounds)) a.col_bounds z =
      fits made (a.rows + b.rows + b.cols) a.cols (meet_cells a b) (a.row_bounds ++ (b.row_bounds ++ b.col_bounds)) a.col_bounds z m h in
      let rest = within-right (λ i. cell_sum (meet_cells a b) i (entry z)) 1 a.row_bounds (b.row_bounds ++ b.col_bounds) f.rows_within in
      record {
        first = of_bounds a z (record {
          width = f.width;
          of_rows = within-same (λ i. cell_sum (meet_cells a b) i (entry z)) (λ i. cell_sum a.a i (entry z)) 1 1 a.row_bounds first_same
              (within-left (λ i. cell_sum (meet_cells a b) i (entry z)) 1 a.row_bounds (b.row_bounds ++ b.col_bounds) f.rows_within);
          of_cols = f.cols_within;
        });
        second = of_bounds b z (record {
          width = f.width ∙ same;
          of_rows = within-same (λ i. cell_sum (meet_cells a b) i (entry z)) (λ i. cell_sum b.a i (entry z)) (length a.row_bounds + 1) 1 b.row_bounds second_same
              (within-left (λ i. cell_sum (meet_cells a b) i (entry z)) (length a.row_bounds + 1) b.row_bounds b.col_bounds rest);
          of_cols = within-same (λ i. cell_sum (meet_cells a b) i (entry z)) (entry z) (length b.row_bounds + (length a.row_bounds + 1)) 1 b.col_bounds third_same
              (within-right (λ i. cell_sum (meet_cells a b) i (entry z)) (length a.row_bounds + 1) b.row_bounds b.col_bounds rest);
        });
      }

  both_feasible : IsInBoth a b z → IsFeasible made z
  both_feasible h =
      let f : IsInBounds a z = in_bounds a z h.first in
      let s : IsInBounds b z = in_bounds b z h.second in
      fitting made (a.rows + b.rows + b.cols) a.cols (meet_cells a b) (a.row_bounds ++ (b.row_bounds ++ b.col_bounds)) a.col_bounds z m (record {
        width = f.width;
        rows_within = within-append (λ i. cell_sum (meet_cells a b) i (entry z)) 1 a.row_bounds (b.row_bounds ++ b.col_bounds)
            (within-same (λ i. cell_sum a.a i (entry z)) (λ i. cell_sum (meet_cells a b) i (entry z)) 1 1 a.row_bounds (λ t l. sym (first_same t l)) f.of_rows)
            (within-append (λ i. cell_sum (meet_cells a b) i (entry z)) (length a.row_bounds + 1) b.row_bounds b.col_bounds
            (within-same (λ i. cell_sum b.a i (entry z)) (λ i. cell_sum (meet_cells a b) i (entry z)) 1 (length a.row_bounds + 1) b.row_bounds (λ t l. sym (second_same t l)) s.of_rows)
            (within-same (entry z) (λ i. cell_sum (meet_cells a b) i (entry z)) 1 (length b.row_bounds + (length a.row_bounds + 1)) b.col_bounds (λ t l. sym (third_same t l)) s.of_cols));
        cols_within = f.of_cols;
      })

pub meet_projects : MeetProjects
meet_projects a b made same m z = (
  λ h. subst (IsInBoth a b) (sym (take-all a.cols h.choice (h.feasible.width ∙ m.cols)) ∙ h.begins) (feasible_both a b made same m h.choice h.feasible),
  λ h. record { choice = z; feasible = both_feasible a b made same m z h; begins = take-all a.cols z h.first.width },
)
