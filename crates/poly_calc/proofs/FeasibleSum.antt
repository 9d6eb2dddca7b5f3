-- What is feasible for the problem for a sum.
use Rattle.std.proofs.Common.{◌≡◌, ℕ, ◌+◌, ◌<◌, ◌≤◌, List, ◌++◌, length, take, drop, replicate, All, refl, sym, ap, ap₂, ◌∙◌, subst, arith, length-append}
use Rattle.std.specs.List.{flat_map}
use Rattle.std.proofs.lemmas.List.{length-replicate}
use Rattle.exact_field.specs.Rational.{ℚ, zero_ℚ, ◌+ℚ◌, neg_ℚ}
use Rattle.exact_field.specs.Vector.{entry}
use Rattle.polyhedra.specs.Vectors.{plus}
use Rattle.polyhedra.proofs.Linear.{length-plus}
use Rattle.vlp_problem.specs.Sides.{numbers_from, IsFeasible}
use Rattle.vlp_problem.specs.declared.problem.Bound.{Bound}
use Rattle.vlp_problem.specs.declared.problem.Bound.TheVariants.{Free, Fixed}
use Rattle.vlp_problem.specs.declared.problem.Problem.{Problem}
use Rattle.projection.specs.Associated.{IsInProjection}
use Rattle.poly_calc.specs.Sets.{IsInSum}
use Rattle.poly_calc.specs.Made.{moved, sum_row, sum_cells, IsSum}
use Rattle.poly_calc.specs.Laws.{SumProjects}
use Rattle.poly_calc.proofs.Sums.{cell_sum}
use Rattle.poly_calc.proofs.Bounds.{IsInBounds, in_bounds, of_bounds, within-append, within-left, within-right, within-same, within_free, within_zero, zero_within}
use Rattle.poly_calc.proofs.Parts.{Fits, fits, fitting, IsInside, inside, none_before, none_after, none_append, moved_at, left_part, right_part, none_rows, row_at, AreParts, parts, entry-left, entry-right, take-first}
use Rattle.poly_calc.proofs.Added.{sum_own, sum_row_is, entries_add, from_entries}

module _ (a b : Problem) (same : a.cols ≡ b.cols) (z x y : List ℚ) (z_width : length z ≡ a.cols) (x_width : length x ≡ a.cols) (y_width : length y ≡ b.cols) where
  first_inside : All (IsInside a.rows a.cols) a.a
  first_inside = inside a.rows a.cols a.a a.a_cells

  second_inside : All (IsInside b.rows b.cols) b.a
  second_inside = inside b.rows b.cols b.a b.a_cells

  -- the entries of z, x and y
  first_entry : (j : ℕ) → 1 ≤ j → j ≤ a.cols → entry (z ++ (x ++ y)) j ≡ entry z j
  first_entry j l u = entry-left a.cols j z (x ++ y) z_width l u

  second_entry : (j m : ℕ) → 1 ≤ j → j ≤ a.cols → m ≡ j + a.cols → entry (z ++ (x ++ y)) m ≡ entry x j
  second_entry j m l u e = entry-right a.cols j m z (x ++ y) z_width l e ∙ entry-left a.cols j x y x_width l u

  third_entry : (j m : ℕ) → 1 ≤ j → m ≡ j + (a.cols + a.cols) → entry (z ++ (x ++ y)) m ≡ entry y j
  third_entry j m l e = entry-right a.cols (j + a.cols) m z (x ++ y) z_width (omega arith) (omega arith) ∙ entry-right a.cols j (j + a.cols) x y x_width l refl

  -- the equations, and the rows of the two files
  sum_is : (t : ℕ) → t < a.cols → cell_sum (sum_cells a b) (t + 1) (entry (z ++ (x ++ y))) ≡ entry z (t + 1) +ℚ neg_ℚ (entry x (t + 1) +ℚ entry y (t + 1))
  sum_is t l =
      left_part (flat_map (sum_row a.cols) (numbers_from 1 a.cols)) (moved a.cols a.cols a.a ++ moved (a.cols + a.rows) (a.cols + a.cols) b.a) (t + 1) (entry (z ++ (x ++ y)))
      (none_append (moved a.cols a.cols a.a) (moved (a.cols + a.rows) (a.cols + a.cols) b.a) (t + 1)
      (none_before a.rows a.cols a.cols a.cols (t + 1) a.a first_inside (omega arith))
      (none_before b.rows b.cols (a.cols + a.rows) (a.cols + a.cols) (t + 1) b.a second_inside (omega arith)))
      ∙ row_at (sum_row a.cols) (sum_own a.cols) 1 a.cols (t + 1) (entry (z ++ (x ++ y))) (omega arith) (omega arith)
      ∙ sum_row_is a.cols (t + 1) (entry (z ++ (x ++ y)))
      ∙ ap₂ (λ p q. p +ℚ neg_ℚ q) (first_entry (t + 1) (omega arith) (omega arith))
      (ap₂ (λ p q. p +ℚ q) (second_entry (t + 1) (a.cols + (t + 1)) (omega arith) (omega arith) (omega arith))
      (third_entry (t + 1) (a.cols + a.cols + (t + 1)) (omega arith) (omega arith)))

  first_rows : (t m : ℕ) → m ≡ a.cols → t < a.rows → cell_sum (sum_cells a b) (t + (m + 1)) (entry (z ++ (x ++ y))) ≡ cell_sum a.a (t + 1) (entry x)
  first_rows t m e l =
      right_part (flat_map (sum_row a.cols) (numbers_from 1 a.cols)) (moved a.cols a.cols a.a ++ moved (a.cols + a.rows) (a.cols + a.cols) b.a) (t + (m + 1)) (entry (z ++ (x ++ y)))
      (none_rows (sum_row a.cols) (sum_own a.cols) 1 a.cols (t + (m + 1)) (λ i _ u f. away i u f))
      ∙ left_part (moved a.cols a.cols a.a) (moved (a.cols + a.rows) (a.cols + a.cols) b.a) (t + (m + 1)) (entry (z ++ (x ++ y)))
      (none_before b.rows b.cols (a.cols + a.rows) (a.cols + a.cols) (t + (m + 1)) b.a second_inside (omega arith))
      ∙ moved_at a.rows a.cols a.cols a.cols (t + 1) (t + (m + 1)) a.a (entry (z ++ (x ++ y))) (entry x) first_inside (omega arith) (λ j k u. second_entry j (j + a.cols) k u refl)
    where
      away : (i : ℕ) → i < 1 + a.cols → i ≡ t + (m + 1) → ⊥
      away i u f = omega arith

  second_rows : (t m n : ℕ) → m ≡ a.cols → n ≡ a.rows → cell_sum (sum_cells a b) (t + (n + (m + 1))) (entry (z ++ (x ++ y))) ≡ cell_sum b.a (t + 1) (entry y)
  second_rows t m n e f =
      right_part (flat_map (sum_row a.cols) (numbers_from 1 a.cols)) (moved a.cols a.cols a.a ++ moved (a.cols + a.rows) (a.cols + a.cols) b.a) (t + (n + (m + 1))) (entry (z ++ (x ++ y)))
      (none_rows (sum_row a.cols) (sum_own a.cols) 1 a.cols (t + (n + (m + 1))) (λ i _ u f. away i u f))
      ∙ right_part (moved a.cols a.cols a.a) (moved (a.cols + a.rows) (a.cols + a.cols) b.a) (t + (n + (m + 1))) (entry (z ++ (x ++ y)))
      (none_after a.rows a.cols a.cols a.cols (t + (n + (m + 1))) a.a first_inside (omega arith))
      ∙ moved_at b.rows b.cols (a.cols + a.rows) (a.cols + a.cols) (t + 1) (t + (n + (m + 1))) b.a (entry (z ++ (x ++ y))) (entry y) second_inside (omega arith)
      (λ j k _. third_entry j (j + (a.cols + a.cols)) k refl)
    where
      away : (i : ℕ) → i < 1 + a.cols → i ≡ t + (n + (m + 1)) → ⊥
      away i u f = omega arith

  -- and the columns
  first_columns : (t m : ℕ) → m ≡ a.cols → t < a.cols → entry (z ++ (x ++ y)) (t + (m + 1)) ≡ entry x (t + 1)
  first_columns t m e l = second_entry (t + 1) (t + (m + 1)) (omega arith) (omega arith) (omega arith)

  second_columns : (t m n : ℕ) → m ≡ a.cols → n ≡ a.cols → entry (z ++ (x ++ y)) (t + (n + (m + 1))) ≡ entry y (t + 1)
  second_columns t m n e f = third_entry (t + 1) (t + (n + (m + 1))) (omega arith) (omega arith)

  many : {X : Type 0} (v : X) → length (replicate a.cols v) ≡ a.cols
  many v = length-replicate a.cols v

  in_rows : (t : ℕ) → t < length a.row_bounds → t < a.rows
  in_rows t l = subst (λ (n : ℕ). t < n) a.row_count l

  in_cols : (t : ℕ) → t < length a.col_bounds → t < a.cols
  in_cols t l = subst (λ (n : ℕ). t < n) a.col_count l

  to_fit : IsFeasible a x → IsFeasible b y → z ≡ plus x y →
      Fits (a.cols + a.cols + a.cols) (sum_cells a b) (replicate a.cols (Fixed zero_ℚ) ++ (a.row_bounds ++ b.row_bounds)) (replicate a.cols Free ++ (a.col_bounds ++ b.col_bounds)) (z ++ (x ++ y))
  to_fit f g e =
      let p : IsInBounds a x = in_bounds a x f in
      let q : IsInBounds b y = in_bounds b y g in
      let s : ℕ = length (replicate a.cols (Fixed zero_ℚ)) in
      let k : ℕ = length (replicate a.cols Free) in
      record {
        width = wide (length (z ++ (x ++ y))) (length (x ++ y)) (length z) (length x) (length y) (length-append z (x ++ y)) (length-append x y) z_width x_width (y_width ∙ sym same);
        rows_within = within-append (λ i. cell_sum (sum_cells a b) i (entry (z ++ (x ++ y)))) 1 (replicate a.cols (Fixed zero_ℚ)) (a.row_bounds ++ b.row_bounds)
            (within_zero (λ i. cell_sum (sum_cells a b) i (entry (z ++ (x ++ y)))) 1 a.cols
            (λ t l. sum_is t l ∙ entries_add a.cols z x y z_width x_width (y_width ∙ sym same) e t l))
            (within-append (λ i. cell_sum (sum_cells a b) i (entry (z ++ (x ++ y)))) (s + 1) a.row_bounds b.row_bounds
            (within-same (λ i. cell_sum a.a i (entry x)) (λ i. cell_sum (sum_cells a b) i (entry (z ++ (x ++ y)))) 1 (s + 1) a.row_bounds
            (λ t l. sym (first_rows t s (many (Fixed zero_ℚ)) (in_rows t l))) p.of_rows)
            (within-same (λ i. cell_sum b.a i (entry y)) (λ i. cell_sum (sum_cells a b) i (entry (z ++ (x ++ y)))) 1 (length a.row_bounds + (s + 1)) b.row_bounds
            (λ t l. sym (second_rows t s (length a.row_bounds) (many (Fixed zero_ℚ)) a.row_count)) q.of_rows));
        cols_within = within-append (entry (z ++ (x ++ y))) 1 (replicate a.cols Free) (a.col_bounds ++ b.col_bounds) (within_free (entry (z ++ (x ++ y))) 1 a.cols)
            (within-append (entry (z ++ (x ++ y))) (k + 1) a.col_bounds b.col_bounds
            (within-same (entry x) (entry (z ++ (x ++ y))) 1 (k + 1) a.col_bounds (λ t l. sym (first_columns t k (many Free) (in_cols t l))) p.of_cols)
            (within-same (entry y) (entry (z ++ (x ++ y))) 1 (length a.col_bounds + (k + 1)) b.col_bounds
            (λ t l. sym (second_columns t k (length a.col_bounds) (many Free) a.col_count)) q.of_cols));
      }
    where
      wide : (u v m n k : ℕ) → u ≡ m + v → v ≡ n + k → m ≡ a.cols → n ≡ a.cols → k ≡ a.cols → u ≡ a.cols + a.cols + a.cols
      wide u v m n k e f g h i = omega arith

  from_fit : Fits (a.cols + a.cols + a.cols) (sum_cells a b) (replicate a.cols (Fixed zero_ℚ) ++ (a.row_bounds ++ b.row_bounds)) (replicate a.cols Free ++ (a.col_bounds ++ b.col_bounds)) (z ++ (x ++ y)) →
      IsInSum a b z
  from_fit f =
      let s : ℕ = length (replicate a.cols (Fixed zero_ℚ)) in
      let k : ℕ = length (replicate a.cols Free) in
      let rows = within-right (λ i. cell_sum (sum_cells a b) i (entry (z ++ (x ++ y)))) 1 (replicate a.cols (Fixed zero_ℚ)) (a.row_bounds ++ b.row_bounds) f.rows_within in
      let columns = within-right (entry (z ++ (x ++ y))) 1 (replicate a.cols Free) (a.col_bounds ++ b.col_bounds) f.cols_within in
      record {
        x = x;
        y = y;
        first = of_bounds a x (record {
          width = x_width;
          of_rows = within-same (λ i. cell_sum (sum_cells a b) i (entry (z ++ (x ++ y)))) (λ i. cell_sum a.a i (entry x)) (s + 1) 1 a.row_bounds
              (λ t l. first_rows t s (many (Fixed zero_ℚ)) (in_rows t l))
              (within-left (λ i. cell_sum (sum_cells a b) i (entry (z ++ (x ++ y)))) (s + 1) a.row_bounds b.row_bounds rows);
          of_cols = within-same (entry (z ++ (x ++ y))) (entry x) (k + 1) 1 a.col_bounds (λ t l. first_columns t k (many Free) (in_cols t l))
              (within-left (entry (z ++ (x ++ y))) (k + 1) a.col_bounds b.col_bounds columns);
        });
        second = of_bounds b y (record {
          width = y_width;
          of_rows = within-same (λ i. cell_sum (sum_cells a b) i (entry (z ++ (x ++ y)))) (λ i. cell_sum b.a i (entry y)) (length a.row_bounds + (s + 1)) 1 b.row_bounds
              (λ t l. second_rows t s (length a.row_bounds) (many (Fixed zero_ℚ)) a.row_count)
              (within-right (λ i. cell_sum (sum_cells a b) i (entry (z ++ (x ++ y)))) (s + 1) a.row_bounds b.row_bounds rows);
          of_cols = within-same (entry (z ++ (x ++ y))) (entry y) (length a.col_bounds + (k + 1)) 1 b.col_bounds
              (λ t l. second_columns t k (length a.col_bounds) (many Free) a.col_count)
              (within-right (entry (z ++ (x ++ y))) (k + 1) a.col_bounds b.col_bounds columns);
        });
        same = from_entries a.cols z x y z_width x_width (y_width ∙ sym same) (λ t l. sym (sum_is t l)
            ∙ zero_within (λ i. cell_sum (sum_cells a b) i (entry (z ++ (x ++ y)))) 1 a.cols
            (within-left (λ i. cell_sum (sum_cells a b) i (entry (z ++ (x ++ y)))) 1 (replicate a.cols (Fixed zero_ℚ)) (a.row_bounds ++ b.row_bounds) f.rows_within) t l);
      }

module _ (a b made : Problem) (same : a.cols ≡ b.cols) (m : IsSum a b made) where
  abbrev row_limits : List Bound
  row_limits = replicate a.cols (Fixed zero_ℚ) ++ (a.row_bounds ++ b.row_bounds)

  abbrev col_limits : List Bound
  col_limits = replicate a.cols Free ++ (a.col_bounds ++ b.col_bounds)

  sum_width : (z : List ℚ) (h : IsInSum a b z) → length z ≡ a.cols
  sum_width z h = ap length h.same ∙ length-plus a.cols h.x h.y h.first.width (h.second.width ∙ sym same)

  forth : (z : List ℚ) (h : IsInProjection made a.cols z) → IsInSum a b z
  forth z h =
      let u : List ℚ = h.choice in
      let p : AreParts a.cols (a.cols + a.cols) u = parts a.cols (a.cols + a.cols) u (h.feasible.width ∙ m.cols ∙ wide) in
      let q : AreParts a.cols a.cols (drop a.cols u) = parts a.cols a.cols (drop a.cols u) p.back_width in
      subst (IsInSum a b) h.begins (from_fit a b same (take a.cols u) (take a.cols (drop a.cols u)) (drop a.cols (drop a.cols u)) p.front_width q.front_width (q.back_width ∙ same)
      (subst (Fits (a.cols + a.cols + a.cols) (sum_cells a b) row_limits col_limits) (p.same ∙ ap (λ w. take a.cols u ++ w) q.same)
      (fits made (a.cols + a.rows + b.rows) (a.cols + a.cols + a.cols) (sum_cells a b) row_limits col_limits u m h.feasible)))
    where
      wide : a.cols + a.cols + a.cols ≡ a.cols + (a.cols + a.cols)
      wide = omega arith

  back : (z : List ℚ) (h : IsInSum a b z) → IsInProjection made a.cols z
  back z h = record {
    choice = z ++ (h.x ++ h.y);
    feasible = fitting made (a.cols + a.rows + b.rows) (a.cols + a.cols + a.cols) (sum_cells a b) row_limits col_limits (z ++ (h.x ++ h.y)) m
        (to_fit a b same z h.x h.y (sum_width z h) h.first.width h.second.width h.first h.second h.same);
    begins = take-first a.cols z (h.x ++ h.y) (sum_width z h);
  }

pub sum_projects : SumProjects
sum_projects a b made same m z = (λ h. forth a b made same m z h, λ h. back a b made same m z h)
