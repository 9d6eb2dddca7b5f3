-- What is feasible for the problem for an image.
use Rattle.std.proofs.Common.{◌≡◌, ℕ, zero, suc, ◌+◌, ◌-◌, ◌<◌, ◌≤◌, ◌==◌, Bool, true, false, cond, List, [], ◌∷◌, ◌++◌, map, length, take, drop, filter, replicate, All, slice_index_or, refl, sym, ap, ap₂, ◌∙◌, subst, arith, length-append}
use Rattle.std.specs.List.{flat_map}
use Rattle.std.proofs.lemmas.Bool.Decides.{nat_tests}
use Rattle.std.proofs.lemmas.List.{length-replicate}
use Rattle.std.proofs.lemmas.List.Elements.{All-nil, All-cons, All-head, All-tail}
use Rattle.exact_field.specs.Rational.{ℚ, zero_ℚ, one_ℚ, ◌+ℚ◌, ◌*ℚ◌, neg_ℚ}
use Rattle.exact_field.specs.Vector.{entry, dot}
use Rattle.exact_field.proofs.Rationals.{difference_self, same_from_difference}
use Rattle.polyhedra.specs.Vectors.{values}
use Rattle.polyhedra.proofs.Algebra.{zero_add, neg_zero, neg_mul, neg_add, one_mul}
use Rattle.vlp_problem.specs.Sides.{numbers_from, IsFeasible}
use Rattle.vlp_problem.specs.declared.problem.Bound.TheVariants.{Free, Fixed}
use Rattle.vlp_problem.specs.declared.problem.Cell.{Cell}
use Rattle.vlp_problem.specs.declared.problem.Problem.{Problem}
use Rattle.projection.specs.Associated.{IsInProjection, cell}
use Rattle.poly_calc.specs.Sets.{IsInMap, objective_row, objective_values}
use Rattle.poly_calc.specs.Made.{moved, value_row, map_cells}
use Rattle.poly_calc.specs.Laws.{MapProjects}
use Rattle.poly_calc.proofs.Sums.{IsInColumns, cell_sum, cell_sum-own, row-product}
use Rattle.poly_calc.proofs.Bounds.{IsInBounds, in_bounds, of_bounds, within-append, within-left, within-right, within-same, within_free, within_zero, zero_within}
use Rattle.poly_calc.proofs.Parts.{Fits, fits, fitting, IsInside, inside, in_columns, none_before, moved_at, left_part, right_part, AllIn, none_rows, row_at, AreParts, parts, entry-left, entry-right, take-first, same_entries, number_at, numbers_length}

-- ---- the cells of z - P x
all_in : (q i : ℕ) (cs : List Cell) → All (λ (c : Cell). c.row ≡ i) (map (λ c. cell i (q + c.col) (neg_ℚ c.value)) cs)
all_in q i [] = All-nil (λ (c : Cell). c.row ≡ i)
all_in q i (c ∷ cs) = All-cons (λ (c : Cell). c.row ≡ i) (cell i (q + c.col) (neg_ℚ c.value)) (map (λ c. cell i (q + c.col) (neg_ℚ c.value)) cs) refl (all_in q i cs)

pub value_own : (a : Problem) (i : ℕ) → AllIn i (value_row a i)
value_own a i = All-cons (λ (c : Cell). c.row ≡ i) (cell i i one_ℚ) (map (λ c. cell i (a.objs + c.col) (neg_ℚ c.value)) (filter (λ c. c.row == i) a.o)) refl
    (all_in a.objs i (filter (λ c. c.row == i) a.o))

taken_sum : (n q i : ℕ) (o : List Cell) (u w : ℕ → ℚ) → All (IsInColumns n) o → ((j : ℕ) → 1 ≤ j → j ≤ n → u (q + j) ≡ w j) →
    cell_sum (map (λ c. cell i (q + c.col) (neg_ℚ c.value)) (filter (λ c. c.row == i) o)) i u ≡ neg_ℚ (cell_sum o i w)
taken_sum n q i [] u w h e = sym neg_zero
taken_sum n q i (c ∷ o) u w h e = go (c.row == i) refl (taken_sum n q i o u w (All-tail (IsInColumns n) c o h) e)
  where
    self : (i == i) ≡ true
    self = grind (arith, nat_tests)

    go : (b : Bool) → (c.row == i) ≡ b →
        cell_sum (map (λ c. cell i (q + c.col) (neg_ℚ c.value)) (filter (λ c. c.row == i) o)) i u ≡ neg_ℚ (cell_sum o i w) →
        cell_sum (map (λ c. cell i (q + c.col) (neg_ℚ c.value)) (filter (λ c. c.row == i) (c ∷ o))) i u ≡ neg_ℚ (cond (c.row == i) (c.value *ℚ w c.col) zero_ℚ +ℚ cell_sum o i w)
    go true f again =
        ap (λ b. cell_sum (map (λ c. cell i (q + c.col) (neg_ℚ c.value)) (cond b (c ∷ filter (λ c. c.row == i) o) (filter (λ c. c.row == i) o))) i u) f
        ∙ ap₂ (λ b s. cond b (neg_ℚ c.value *ℚ u (q + c.col)) zero_ℚ +ℚ s) self again
        ∙ ap (λ s. s +ℚ neg_ℚ (cell_sum o i w)) (ap (λ s. neg_ℚ c.value *ℚ s) (e c.col (All-head (IsInColumns n) c o h).low (All-head (IsInColumns n) c o h).high) ∙ neg_mul c.value (w c.col))
        ∙ sym (neg_add (c.value *ℚ w c.col) (cell_sum o i w)) ∙ ap (λ b. neg_ℚ (cond b (c.value *ℚ w c.col) zero_ℚ +ℚ cell_sum o i w)) (sym f)
    go false f again =
        ap (λ b. cell_sum (map (λ c. cell i (q + c.col) (neg_ℚ c.value)) (cond b (c ∷ filter (λ c. c.row == i) o) (filter (λ c. c.row == i) o))) i u) f
        ∙ again ∙ ap neg_ℚ (sym (zero_add (cell_sum o i w))) ∙ ap (λ b. neg_ℚ (cond b (c.value *ℚ w c.col) zero_ℚ +ℚ cell_sum o i w)) (sym f)

-- the objectives' values, one by one
values_numbers : (f : ℕ → List ℚ) (x : List ℚ) (s m : ℕ) → values (map f (numbers_from s m)) x ≡ map (λ i. dot (f i) x) (numbers_from s m)
values_numbers f x s zero = refl
values_numbers f x s (suc m) = ap (λ w. dot (f s) x ∷ w) (values_numbers f x (suc s) m)

pub values-length : (a : Problem) (x : List ℚ) → length (objective_values a x) ≡ a.objs
values-length a x = ap length (values_numbers (objective_row a) x 1 a.objs) ∙ numbers_length (λ i. dot (objective_row a i) x) 1 a.objs

module _ (a : Problem) (z x : List ℚ) (z_width : length z ≡ a.objs) (x_width : length x ≡ a.cols) where
  matrix_inside : All (IsInside a.rows a.cols) a.a
  matrix_inside = inside a.rows a.cols a.a a.a_cells

  -- row number t of the equations, and of the file's rows
  value_is : (t : ℕ) → t < a.objs → cell_sum (map_cells a) (t + 1) (entry (z ++ x)) ≡ entry z (t + 1) +ℚ neg_ℚ (dot (objective_row a (t + 1)) x)
  value_is t l =
      left_part (flat_map (value_row a) (numbers_from 1 a.objs)) (moved a.objs a.objs a.a) (t + 1) (entry (z ++ x))
      (none_before a.rows a.cols a.objs a.objs (t + 1) a.a matrix_inside (omega arith))
      ∙ row_at (value_row a) (value_own a) 1 a.objs (t + 1) (entry (z ++ x)) (omega arith) (omega arith)
      ∙ cell_sum-own (t + 1) (t + 1) one_ℚ (map (λ c. cell (t + 1) (a.objs + c.col) (neg_ℚ c.value)) (filter (λ c. c.row == t + 1) a.o)) (entry (z ++ x))
      ∙ ap₂ (λ p q. p +ℚ q)
      (one_mul (entry (z ++ x) (t + 1)) ∙ entry-left a.objs (t + 1) z x z_width (omega arith) (omega arith))
      (taken_sum a.cols a.objs (t + 1) a.o (entry (z ++ x)) (entry x) (in_columns a.objs a.cols a.o (inside a.objs a.cols a.o a.o_cells))
      (λ j m _. entry-right a.objs j (a.objs + j) z x z_width m (omega arith))
      ∙ ap neg_ℚ (sym (row-product a.objs a.cols (t + 1) a.o x a.o_cells x_width)))

  matrix_is : (t m : ℕ) → m ≡ a.objs → cell_sum (map_cells a) (t + (m + 1)) (entry (z ++ x)) ≡ cell_sum a.a (t + 1) (entry x)
  matrix_is t m e =
      right_part (flat_map (value_row a) (numbers_from 1 a.objs)) (moved a.objs a.objs a.a) (t + (m + 1)) (entry (z ++ x))
      (none_rows (value_row a) (value_own a) 1 a.objs (t + (m + 1)) (λ i l u f. away i u f))
      ∙ moved_at a.rows a.cols a.objs a.objs (t + 1) (t + (m + 1)) a.a (entry (z ++ x)) (entry x) matrix_inside (omega arith)
      (λ j k _. entry-right a.objs j (j + a.objs) z x z_width k refl)
    where
      away : (i : ℕ) → i < 1 + a.objs → i ≡ t + (m + 1) → ⊥
      away i u f = omega arith

  column_is : (t m : ℕ) → m ≡ a.objs → entry (z ++ x) (t + (m + 1)) ≡ entry x (t + 1)
  column_is t m e = entry-right a.objs (t + 1) (t + (m + 1)) z x z_width (omega arith) (omega arith)

  many : {X : Type 0} (v : X) → length (replicate a.objs v) ≡ a.objs
  many v = length-replicate a.objs v

  to_fit : IsFeasible a x → z ≡ objective_values a x →
      Fits (a.objs + a.cols) (map_cells a) (replicate a.objs (Fixed zero_ℚ) ++ a.row_bounds) (replicate a.objs Free ++ a.col_bounds) (z ++ x)
  to_fit f e =
      let b : IsInBounds a x = in_bounds a x f in
      record {
        width = length-append z x ∙ ap₂ (λ k n. k + n) z_width x_width;
        rows_within = within-append (λ i. cell_sum (map_cells a) i (entry (z ++ x))) 1 (replicate a.objs (Fixed zero_ℚ)) a.row_bounds
            (within_zero (λ i. cell_sum (map_cells a) i (entry (z ++ x))) 1 a.objs (λ t l. value_is t l ∙ ap (λ p. p +ℚ neg_ℚ (dot (objective_row a (t + 1)) x)) (entry_is t l)
            ∙ difference_self (dot (objective_row a (t + 1)) x)))
            (within-same (λ i. cell_sum a.a i (entry x)) (λ i. cell_sum (map_cells a) i (entry (z ++ x))) 1 (length (replicate a.objs (Fixed zero_ℚ)) + 1) a.row_bounds
            (λ t l. sym (matrix_is t (length (replicate a.objs (Fixed zero_ℚ))) (many (Fixed zero_ℚ)))) b.of_rows);
        cols_within = within-append (entry (z ++ x)) 1 (replicate a.objs Free) a.col_bounds (within_free (entry (z ++ x)) 1 a.objs)
            (within-same (entry x) (entry (z ++ x)) 1 (length (replicate a.objs Free) + 1) a.col_bounds
            (λ t l. sym (column_is t (length (replicate a.objs Free)) (many Free))) b.of_cols);
      }
    where
      less : (t : ℕ) → (t + 1) - 1 ≡ t
      less t = omega arith

      turn : (t : ℕ) → 1 + t ≡ t + 1
      turn t = omega arith

      entry_is : (t : ℕ) → t < a.objs → entry z (t + 1) ≡ dot (objective_row a (t + 1)) x
      entry_is t l = ap (λ (k : ℕ). slice_index_or z k zero_ℚ) (less t) ∙ ap (λ (v : List ℚ). slice_index_or v t zero_ℚ) (e ∙ values_numbers (objective_row a) x 1 a.objs)
          ∙ number_at (λ i. dot (objective_row a i) x) 1 a.objs t l ∙ ap (λ (k : ℕ). dot (objective_row a k) x) (turn t)

  from_fit : Fits (a.objs + a.cols) (map_cells a) (replicate a.objs (Fixed zero_ℚ) ++ a.row_bounds) (replicate a.objs Free ++ a.col_bounds) (z ++ x) → IsInMap a z
  from_fit f = record {
    x = x;
    feasible = of_bounds a x (record {
      width = x_width;
      of_rows = within-same (λ i. cell_sum (map_cells a) i (entry (z ++ x))) (λ i. cell_sum a.a i (entry x)) (length (replicate a.objs (Fixed zero_ℚ)) + 1) 1 a.row_bounds
          (λ t l. matrix_is t (length (replicate a.objs (Fixed zero_ℚ))) (many (Fixed zero_ℚ)))
          (within-right (λ i. cell_sum (map_cells a) i (entry (z ++ x))) 1 (replicate a.objs (Fixed zero_ℚ)) a.row_bounds f.rows_within);
      of_cols = within-same (entry (z ++ x)) (entry x) (length (replicate a.objs Free) + 1) 1 a.col_bounds (λ t l. column_is t (length (replicate a.objs Free)) (many Free))
          (within-right (entry (z ++ x)) 1 (replicate a.objs Free) a.col_bounds f.cols_within);
    });
    same = same_entries (λ i. dot (objective_row a i) x) 1 a.objs z z_width equal ∙ sym (values_numbers (objective_row a) x 1 a.objs);
  }
    where
      less : (t : ℕ) → t ≡ (t + 1) - 1
      less t = omega arith

      turn : (t : ℕ) → t + 1 ≡ 1 + t
      turn t = omega arith

      equal : (t : ℕ) → t < a.objs → slice_index_or z t zero_ℚ ≡ dot (objective_row a (1 + t)) x
      equal t l = ap (λ (k : ℕ). slice_index_or z k zero_ℚ) (less t)
          ∙ same_from_difference (entry z (t + 1)) (dot (objective_row a (t + 1)) x) (sym (value_is t l)
          ∙ zero_within (λ i. cell_sum (map_cells a) i (entry (z ++ x))) 1 a.objs
          (within-left (λ i. cell_sum (map_cells a) i (entry (z ++ x))) 1 (replicate a.objs (Fixed zero_ℚ)) a.row_bounds f.rows_within) t l)
          ∙ ap (λ (k : ℕ). dot (objective_row a k) x) (turn t)

pub map_projects : MapProjects
map_projects a made m z = (
  λ h. forth h (parts a.objs a.cols h.choice (h.feasible.width ∙ m.cols)),
  λ h. record {
    choice = z ++ h.x;
    feasible = fitting made (a.objs + a.rows) (a.objs + a.cols) (map_cells a) (replicate a.objs (Fixed zero_ℚ) ++ a.row_bounds) (replicate a.objs Free ++ a.col_bounds) (z ++ h.x) m
        (to_fit a z h.x (ap length h.same ∙ values-length a h.x) h.feasible.width h.feasible h.same);
    begins = take-first a.objs z h.x (ap length h.same ∙ values-length a h.x);
  },
)
  where
    forth : (h : IsInProjection made a.objs z) → AreParts a.objs a.cols h.choice → IsInMap a z
    forth h p = subst (IsInMap a) h.begins (from_fit a (take a.objs h.choice) (drop a.objs h.choice) p.front_width p.back_width
        (subst (Fits (a.objs + a.cols) (map_cells a) (replicate a.objs (Fixed zero_ℚ) ++ a.row_bounds) (replicate a.objs Free ++ a.col_bounds)) p.same
        (fits made (a.objs + a.rows) (a.objs + a.cols) (map_cells a) (replicate a.objs (Fixed zero_ℚ) ++ a.row_bounds) (replicate a.objs Free ++ a.col_bounds) h.choice m h.feasible)))
