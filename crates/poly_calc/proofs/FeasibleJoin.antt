-- What is feasible for the problem for a join.
use Rattle.std.proofs.Common.{◌≡◌, ℕ, suc, ◌+◌, ◌-◌, ◌<◌, ◌≤◌, List, [], ◌∷◌, ◌++◌, length, take, drop, replicate, All, slice_index_or, refl, sym, ap, ap₂, ◌∙◌, subst, arith, length-append, pos}
use Rattle.std.specs.List.{flat_map}
use Rattle.std.proofs.lemmas.List.{length-replicate}
use Rattle.std.proofs.lemmas.List.Elements.{All-nil, All-cons}
use Rattle.exact_field.specs.Rational.{ℚ, zero_ℚ, one_ℚ, ◌+ℚ◌, ◌*ℚ◌, neg_ℚ, ◌≤ℚ◌}
use Rattle.exact_field.specs.Ring.{v0, v1, v2, v3, ◌⊕◌, ◌⊗◌, num}
use Rattle.exact_field.specs.Vector.{entry, dot}
use Rattle.exact_field.proofs.RingTool.{ring}
use Rattle.exact_field.proofs.Rationals.{rationals}
use Rattle.exact_field.proofs.Inequalities.{le_antisym_ℚ, le_of_same, neg-le}
use Rattle.polyhedra.specs.Vectors.{plus, scaled}
use Rattle.polyhedra.proofs.Linear.{dot-plus, length-plus, length-scaled, same_wide}
use Rattle.representations.specs.Scaled.{MeetsTimes, IsMultipleOf}
use Rattle.representations.proofs.Scaled.{scaled_solutions}
use Rattle.vlp_problem.specs.Sides.{numbers_from, sides}
use Rattle.vlp_problem.specs.declared.problem.Bound.{Bound}
use Rattle.vlp_problem.specs.declared.problem.Bound.TheVariants.{Free, Fixed, Lower}
use Rattle.vlp_problem.specs.declared.problem.Cell.{Cell}
use Rattle.vlp_problem.specs.declared.problem.Problem.{Problem}
use Rattle.projection.specs.Associated.{IsInProjection, cell}
use Rattle.poly_calc.specs.Sets.{HasFeasible, IsInJoin}
use Rattle.poly_calc.specs.Made.{sum_row, side_rows, weights_row, join_cells, join_row_bounds, join_col_bounds, IsJoin}
use Rattle.poly_calc.specs.Laws.{JoinProjects}
use Rattle.poly_calc.proofs.Sums.{NoneIn, cell_sum, cell_sum-own}
use Rattle.poly_calc.proofs.Bounds.{IsWithin, within-append, within-left, within-right, within_free, within_zero, zero_within, AreWithin}
use Rattle.poly_calc.proofs.Parts.{Fits, fits, fitting, AllIn, in_no_other, none_append, left_part, right_part, none_rows, row_at, AreParts, parts, entry-left, entry-right, take-first}
use Rattle.poly_calc.proofs.Added.{sum_own, sum_row_is, entries_add, from_entries}
use Rattle.poly_calc.proofs.SideRows.{sides_wide, Holds, sides_after, sides_before, sides_meet, sides_within}

-- ---- numbers and vectors
fixed_at : (v q : ℚ) → IsWithin (Fixed v) q → q ≡ v
fixed_at v q h = le_antisym_ℚ q v (sym (neg-le q v) ∙ h.1) h.0

at_fixed : (v q : ℚ) → q ≡ v → IsWithin (Fixed v) q
at_fixed v q e = (le_of_same v q (sym e), le_of_same (neg_ℚ v) (neg_ℚ q) (ap neg_ℚ (sym e)))

plus_swap : (n : ℕ) (a b c d : List ℚ) → length a ≡ n → length b ≡ n → length c ≡ n → length d ≡ n → plus (plus a b) (plus c d) ≡ plus (plus a c) (plus b d)
plus_swap n a b c d e f g h = same_wide n (plus (plus a b) (plus c d)) (plus (plus a c) (plus b d))
    (length-plus n (plus a b) (plus c d) (length-plus n a b e f) (length-plus n c d g h)) (length-plus n (plus a c) (plus b d) (length-plus n a c e g) (length-plus n b d f h))
    (λ r. dot-plus r (plus a b) (plus c d) ∙ ap₂ (λ p q. p +ℚ q) (dot-plus r a b) (dot-plus r c d)
    ∙ ring rationals (dot r a ∷ dot r b ∷ dot r c ∷ dot r d ∷ []) ((v0 ⊕ v1) ⊕ (v2 ⊕ v3)) ((v0 ⊕ v2) ⊕ (v1 ⊕ v3)) refl
    ∙ sym (dot-plus r (plus a c) (plus b d) ∙ ap₂ (λ p q. p +ℚ q) (dot-plus r a c) (dot-plus r b d)))

-- ---- the row of k + l
weights_own : (n : ℕ) → AllIn (n + 1) (weights_row n)
weights_own n = All-cons (λ (c : Cell). c.row ≡ n + 1) (cell (n + 1) (n + n + n + 1) one_ℚ) (cell (n + 1) (n + n + n + 2) one_ℚ ∷ []) refl
    (All-cons (λ (c : Cell). c.row ≡ n + 1) (cell (n + 1) (n + n + n + 2) one_ℚ) [] refl (All-nil (λ (c : Cell). c.row ≡ n + 1)))

weights_are : (n : ℕ) (u : ℕ → ℚ) → cell_sum (weights_row n) (n + 1) u ≡ u (n + n + n + 1) +ℚ u (n + n + n + 2)
weights_are n u = cell_sum-own (n + 1) (n + n + n + 1) one_ℚ (cell (n + 1) (n + n + n + 2) one_ℚ ∷ []) u
    ∙ ap (λ q. one_ℚ *ℚ u (n + n + n + 1) +ℚ q) (cell_sum-own (n + 1) (n + n + n + 2) one_ℚ [] u)
    ∙ ring rationals (u (n + n + n + 1) ∷ u (n + n + n + 2) ∷ []) (num (pos 1) ⊗ v0 ⊕ (num (pos 1) ⊗ v1 ⊕ num (pos 0))) (v0 ⊕ v1) refl

-- ---- the entries of z, x, y and the multipliers
module _ (n : ℕ) (z x y w : List ℚ) (z_width : length z ≡ n) (x_width : length x ≡ n) (y_width : length y ≡ n) where
  first_entry : (j : ℕ) → 1 ≤ j → j ≤ n → entry (z ++ (x ++ (y ++ w))) j ≡ entry z j
  first_entry j l u = entry-left n j z (x ++ (y ++ w)) z_width l u

  second_entry : (j m : ℕ) → 1 ≤ j → j ≤ n → m ≡ j + n → entry (z ++ (x ++ (y ++ w))) m ≡ entry x j
  second_entry j m l u e = entry-right n j m z (x ++ (y ++ w)) z_width l e ∙ entry-left n j x (y ++ w) x_width l u

  third_entry : (j m : ℕ) → 1 ≤ j → j ≤ n → m ≡ j + (n + n) → entry (z ++ (x ++ (y ++ w))) m ≡ entry y j
  third_entry j m l u e = entry-right n (j + n) m z (x ++ (y ++ w)) z_width (omega arith) (omega arith) ∙ entry-right n j (j + n) x (y ++ w) x_width l refl
      ∙ entry-left n j y w y_width l u

  last_entry : (j m : ℕ) → 1 ≤ j → m ≡ j + (n + n + n) → entry (z ++ (x ++ (y ++ w))) m ≡ entry w j
  last_entry j m l e = entry-right n (j + n + n) m z (x ++ (y ++ w)) z_width (omega arith) (omega arith)
      ∙ entry-right n (j + n) (j + n + n) x (y ++ w) x_width (omega arith) refl ∙ entry-right n j (j + n) y w y_width l refl

  less : (t : ℕ) → (t + 1) - 1 ≡ t
  less t = omega arith

  second_holds : Holds (entry (z ++ (x ++ (y ++ w)))) (n + 1) x
  second_holds t l = second_entry (t + 1) ((n + 1) + t) (omega arith) (bound (length x) x_width l) (omega arith) ∙ ap (λ (k : ℕ). slice_index_or x k zero_ℚ) (less t)
    where
      bound : (k : ℕ) → k ≡ n → t < k → t + 1 ≤ n
      bound k e h = omega arith

  third_holds : Holds (entry (z ++ (x ++ (y ++ w)))) (n + n + 1) y
  third_holds t l = third_entry (t + 1) ((n + n + 1) + t) (omega arith) (bound (length y) y_width l) (omega arith) ∙ ap (λ (k : ℕ). slice_index_or y k zero_ℚ) (less t)
    where
      bound : (k : ℕ) → k ≡ n → t < k → t + 1 ≤ n
      bound k e h = omega arith

-- ---- the rows
module _ (a b : Problem) (same : a.cols ≡ b.cols) (z x y : List ℚ) (k l : ℚ) (z_width : length z ≡ a.cols) (x_width : length x ≡ a.cols) (y_width : length y ≡ a.cols) where
  abbrev u : ℕ → ℚ
  u = entry (z ++ (x ++ (y ++ (k ∷ l ∷ []))))

  abbrev row : ℕ → ℚ
  row i = cell_sum (join_cells a b) i (entry (z ++ (x ++ (y ++ (k ∷ l ∷ [])))))

  abbrev first_sides : List Cell
  first_sides = side_rows (a.cols + 2) (a.cols + 1) (a.cols + a.cols + a.cols + 1) (sides a)

  abbrev second_sides : List Cell
  second_sides = side_rows (a.cols + 2 + length (sides a)) (a.cols + a.cols + 1) (a.cols + a.cols + a.cols + 2) (sides b)

  abbrev equations : List Cell
  equations = flat_map (sum_row a.cols) (numbers_from 1 a.cols)

  first_weight : u (a.cols + a.cols + a.cols + 1) ≡ k
  first_weight = last_entry a.cols z x y (k ∷ l ∷ []) z_width x_width y_width 1 (a.cols + a.cols + a.cols + 1) (omega arith) (omega arith)

  second_weight : u (a.cols + a.cols + a.cols + 2) ≡ l
  second_weight = last_entry a.cols z x y (k ∷ l ∷ []) z_width x_width y_width 2 (a.cols + a.cols + a.cols + 2) (omega arith) (omega arith)

  not_weights : (i : ℕ) → (a.cols + 1 ≡ i → ⊥) → NoneIn i (weights_row a.cols)
  not_weights i h = in_no_other (a.cols + 1) i (weights_row a.cols) (weights_own a.cols) h

  not_equations : (i : ℕ) → a.cols < i → NoneIn i equations
  not_equations i h = none_rows (sum_row a.cols) (sum_own a.cols) 1 a.cols i (λ r _ v e. away r v e)
    where
      away : (r : ℕ) → r < 1 + a.cols → r ≡ i → ⊥
      away r v e = omega arith

  sum_is : (t : ℕ) → t < a.cols → row (t + 1) ≡ entry z (t + 1) +ℚ neg_ℚ (entry x (t + 1) +ℚ entry y (t + 1))
  sum_is t h =
      left_part equations (weights_row a.cols ++ (first_sides ++ second_sides)) (t + 1) u
      (none_append (weights_row a.cols) (first_sides ++ second_sides) (t + 1) (not_weights (t + 1) apart)
      (none_append first_sides second_sides (t + 1) (sides_after (a.cols + 2) (a.cols + 1) (a.cols + a.cols + a.cols + 1) (t + 1) (sides a) (omega arith))
      (sides_after (a.cols + 2 + length (sides a)) (a.cols + a.cols + 1) (a.cols + a.cols + a.cols + 2) (t + 1) (sides b) (omega arith))))
      ∙ row_at (sum_row a.cols) (sum_own a.cols) 1 a.cols (t + 1) u (omega arith) (omega arith)
      ∙ sum_row_is a.cols (t + 1) u
      ∙ ap₂ (λ p q. p +ℚ neg_ℚ q) (first_entry a.cols z x y (k ∷ l ∷ []) z_width x_width y_width (t + 1) (omega arith) (omega arith))
      (ap₂ (λ p q. p +ℚ q) (second_entry a.cols z x y (k ∷ l ∷ []) z_width x_width y_width (t + 1) (a.cols + (t + 1)) (omega arith) (omega arith) (omega arith))
      (third_entry a.cols z x y (k ∷ l ∷ []) z_width x_width y_width (t + 1) (a.cols + a.cols + (t + 1)) (omega arith) (omega arith) (omega arith)))
    where
      apart : a.cols + 1 ≡ t + 1 → ⊥
      apart e = omega arith

  weights_row_is : row (a.cols + 1) ≡ k +ℚ l
  weights_row_is =
      right_part equations (weights_row a.cols ++ (first_sides ++ second_sides)) (a.cols + 1) u (not_equations (a.cols + 1) (omega arith))
      ∙ left_part (weights_row a.cols) (first_sides ++ second_sides) (a.cols + 1) u
      (none_append first_sides second_sides (a.cols + 1) (sides_after (a.cols + 2) (a.cols + 1) (a.cols + a.cols + a.cols + 1) (a.cols + 1) (sides a) (omega arith))
      (sides_after (a.cols + 2 + length (sides a)) (a.cols + a.cols + 1) (a.cols + a.cols + a.cols + 2) (a.cols + 1) (sides b) (omega arith)))
      ∙ weights_are a.cols u ∙ ap₂ (λ p q. p +ℚ q) first_weight second_weight

  first_gives : (i : ℕ) → a.cols + 2 ≤ i → i < a.cols + 2 + length (sides a) → row i ≡ cell_sum first_sides i u
  first_gives i h v =
      right_part equations (weights_row a.cols ++ (first_sides ++ second_sides)) i u (not_equations i (omega arith))
      ∙ right_part (weights_row a.cols) (first_sides ++ second_sides) i u (not_weights i apart)
      ∙ left_part first_sides second_sides i u (sides_after (a.cols + 2 + length (sides a)) (a.cols + a.cols + 1) (a.cols + a.cols + a.cols + 2) i (sides b) v)
    where
      apart : a.cols + 1 ≡ i → ⊥
      apart e = omega arith

  second_gives : (i : ℕ) → a.cols + 2 + length (sides a) ≤ i → row i ≡ cell_sum second_sides i u
  second_gives i h =
      right_part equations (weights_row a.cols ++ (first_sides ++ second_sides)) i u (not_equations i (omega arith))
      ∙ right_part (weights_row a.cols) (first_sides ++ second_sides) i u (not_weights i apart)
      ∙ right_part first_sides second_sides i u (sides_before (a.cols + 2) (a.cols + 1) (a.cols + a.cols + a.cols + 1) i (sides a) h)
    where
      apart : a.cols + 1 ≡ i → ⊥
      apart e = omega arith

  -- ---- what fits
  record IsMix : Type 0 where
    sum : z ≡ plus x y
    whole : k +ℚ l ≡ one_ℚ
    k_at_least_zero : zero_ℚ ≤ℚ k
    l_at_least_zero : zero_ℚ ≤ℚ l
    first : MeetsTimes k (sides a) x
    second : MeetsTimes l (sides b) y

  abbrev lower : List Bound
  lower = replicate (length (sides a)) (Lower zero_ℚ) ++ replicate (length (sides b)) (Lower zero_ℚ)

  many : {X : Type 0} (m : ℕ) (v : X) → length (replicate m v) ≡ m
  many m v = length-replicate m v

  -- the numbers of the first rows of the parts
  at_weights : length (replicate a.cols (Fixed zero_ℚ)) + 1 ≡ a.cols + 1
  at_weights = ap (λ m. m + 1) (many a.cols (Fixed zero_ℚ))

  at_first : suc (length (replicate a.cols (Fixed zero_ℚ)) + 1) ≡ a.cols + 2
  at_first = place (length (replicate a.cols (Fixed zero_ℚ))) (many a.cols (Fixed zero_ℚ))
    where
      place : (m : ℕ) → m ≡ a.cols → suc (m + 1) ≡ a.cols + 2
      place m e = omega arith

  at_second : length (replicate (length (sides a)) (Lower zero_ℚ)) + (a.cols + 2) ≡ a.cols + 2 + length (sides a)
  at_second = place (length (replicate (length (sides a)) (Lower zero_ℚ))) (many (length (sides a)) (Lower zero_ℚ))
    where
      place : (m : ℕ) → m ≡ length (sides a) → m + (a.cols + 2) ≡ a.cols + 2 + length (sides a)
      place m e = omega arith

  at_multipliers : length (replicate (a.cols + a.cols + a.cols) Free) + 1 ≡ a.cols + a.cols + a.cols + 1
  at_multipliers = ap (λ m. m + 1) (many (a.cols + a.cols + a.cols) Free)

  at_last : suc (a.cols + a.cols + a.cols + 1) ≡ a.cols + a.cols + a.cols + 2
  at_last = omega arith

  from_fit : Fits (a.cols + a.cols + a.cols + 2) (join_cells a b) (join_row_bounds a.cols (length (sides a)) (length (sides b))) (join_col_bounds a.cols) (z ++ (x ++ (y ++ (k ∷ l ∷ [])))) → IsMix
  from_fit f =
      let rest = within-right row 1 (replicate a.cols (Fixed zero_ℚ)) (Fixed one_ℚ ∷ lower) f.rows_within in
      let of_sides : AreWithin row (a.cols + 2) lower = subst (λ (m : ℕ). AreWithin row m lower) at_first rest.1 in
      let multipliers : AreWithin u (a.cols + a.cols + a.cols + 1) (Lower zero_ℚ ∷ Lower zero_ℚ ∷ []) =
      subst (λ (m : ℕ). AreWithin u m (Lower zero_ℚ ∷ Lower zero_ℚ ∷ [])) at_multipliers
      (within-right u 1 (replicate (a.cols + a.cols + a.cols) Free) (Lower zero_ℚ ∷ Lower zero_ℚ ∷ []) f.cols_within) in
      record {
        sum = from_entries a.cols z x y z_width x_width y_width (λ t h. sym (sum_is t h)
            ∙ zero_within row 1 a.cols (within-left row 1 (replicate a.cols (Fixed zero_ℚ)) (Fixed one_ℚ ∷ lower) f.rows_within) t h);
        whole = sym weights_row_is ∙ fixed_at one_ℚ (row (a.cols + 1)) (subst (λ (m : ℕ). IsWithin (Fixed one_ℚ) (row m)) at_weights rest.0);
        k_at_least_zero = subst (λ (q : ℚ). zero_ℚ ≤ℚ q) first_weight multipliers.0;
        l_at_least_zero = subst (λ (q : ℚ). zero_ℚ ≤ℚ q) (ap u at_last ∙ second_weight) multipliers.1.0;
        first = sides_meet (a.cols + 1) (a.cols + a.cols + a.cols + 1) x k u row (second_holds a.cols z x y (k ∷ l ∷ []) z_width x_width y_width) first_weight (a.cols + 2) (sides a)
            (subst (λ (m : ℕ). All (λ e. length e.normal ≡ m) (sides a)) (sym x_width) (sides_wide a)) first_gives
            (within-left row (a.cols + 2) (replicate (length (sides a)) (Lower zero_ℚ)) (replicate (length (sides b)) (Lower zero_ℚ)) of_sides);
        second = sides_meet (a.cols + a.cols + 1) (a.cols + a.cols + a.cols + 2) y l u row (third_holds a.cols z x y (k ∷ l ∷ []) z_width x_width y_width) second_weight
            (a.cols + 2 + length (sides a)) (sides b) (subst (λ (m : ℕ). All (λ e. length e.normal ≡ m) (sides b)) (sym same ∙ sym y_width) (sides_wide b)) (λ i h _. second_gives i h)
            (subst (λ (m : ℕ). AreWithin row m (replicate (length (sides b)) (Lower zero_ℚ))) at_second
            (within-right row (a.cols + 2) (replicate (length (sides a)) (Lower zero_ℚ)) (replicate (length (sides b)) (Lower zero_ℚ)) of_sides));
      }

  to_fit : IsMix → Fits (a.cols + a.cols + a.cols + 2) (join_cells a b) (join_row_bounds a.cols (length (sides a)) (length (sides b))) (join_col_bounds a.cols) (z ++ (x ++ (y ++ (k ∷ l ∷ []))))
  to_fit h = record {
    width = wide (length (z ++ (x ++ (y ++ (k ∷ l ∷ []))))) (length (x ++ (y ++ (k ∷ l ∷ [])))) (length (y ++ (k ∷ l ∷ []))) (length z) (length x) (length y)
        (length-append z (x ++ (y ++ (k ∷ l ∷ [])))) (length-append x (y ++ (k ∷ l ∷ []))) (length-append y (k ∷ l ∷ [])) z_width x_width y_width;
    rows_within = within-append row 1 (replicate a.cols (Fixed zero_ℚ)) (Fixed one_ℚ ∷ lower)
        (within_zero row 1 a.cols (λ t v. sum_is t v ∙ entries_add a.cols z x y z_width x_width y_width h.sum t v)) (
          subst (λ (m : ℕ). IsWithin (Fixed one_ℚ) (row m)) (sym at_weights) (at_fixed one_ℚ (row (a.cols + 1)) (weights_row_is ∙ h.whole)),
          subst (λ (m : ℕ). AreWithin row m lower) (sym at_first)
              (within-append row (a.cols + 2) (replicate (length (sides a)) (Lower zero_ℚ)) (replicate (length (sides b)) (Lower zero_ℚ))
              (sides_within (a.cols + 1) (a.cols + a.cols + a.cols + 1) x k u row (second_holds a.cols z x y (k ∷ l ∷ []) z_width x_width y_width) first_weight (a.cols + 2) (sides a)
              (subst (λ (m : ℕ). All (λ e. length e.normal ≡ m) (sides a)) (sym x_width) (sides_wide a)) first_gives h.first)
              (subst (λ (m : ℕ). AreWithin row m (replicate (length (sides b)) (Lower zero_ℚ))) (sym at_second)
              (sides_within (a.cols + a.cols + 1) (a.cols + a.cols + a.cols + 2) y l u row (third_holds a.cols z x y (k ∷ l ∷ []) z_width x_width y_width) second_weight
              (a.cols + 2 + length (sides a)) (sides b) (subst (λ (m : ℕ). All (λ e. length e.normal ≡ m) (sides b)) (sym same ∙ sym y_width) (sides_wide b)) (λ i v _. second_gives i v) h.second))),
        );
    cols_within = within-append u 1 (replicate (a.cols + a.cols + a.cols) Free) (Lower zero_ℚ ∷ Lower zero_ℚ ∷ []) (within_free u 1 (a.cols + a.cols + a.cols))
        (subst (λ (m : ℕ). AreWithin u m (Lower zero_ℚ ∷ Lower zero_ℚ ∷ [])) (sym at_multipliers) (
          subst (λ (q : ℚ). zero_ℚ ≤ℚ q) (sym first_weight) h.k_at_least_zero,
          (subst (λ (q : ℚ). zero_ℚ ≤ℚ q) (sym (ap u at_last ∙ second_weight)) h.l_at_least_zero, tt),
        ));
  }
    where
      wide : (p q r i j m : ℕ) → p ≡ i + q → q ≡ j + r → r ≡ m + 2 → i ≡ a.cols → j ≡ a.cols → m ≡ a.cols → p ≡ a.cols + a.cols + a.cols + 2
      wide p q r i j m e f g s t v = omega arith

-- ---- vectors of two entries
record IsPair (w : List ℚ) : Type 0 where
  first : ℚ
  second : ℚ
  same : w ≡ first ∷ second ∷ []

pair_of : (w : List ℚ) → length w ≡ 2 → IsPair w
pair_of [] e = absurd (omega arith)
pair_of (p ∷ []) e = absurd (omega arith)
pair_of (p ∷ q ∷ []) e = record { first = p; second = q; same = refl }
pair_of (p ∷ q ∷ r ∷ w) e = absurd (omega arith)

module _ (a b made : Problem) (same : a.cols ≡ b.cols) (some : HasFeasible a) (other : HasFeasible b) (m : IsJoin a b made) where
  -- k times a solution plus a direction, of each part
  joined : (z x y : List ℚ) (k l : ℚ) (zw : length z ≡ a.cols) (xw : length x ≡ a.cols) (yw : length y ≡ a.cols) → IsMix a b same z x y k l zw xw yw → IsInJoin a b z
  joined z x y k l zw xw yw h =
      let p : IsMultipleOf a.cols (sides a) k x = (scaled_solutions a.cols (sides a) some.choice some.feasible.width some.feasible.meets k x h.k_at_least_zero xw).0 h.first in
      let q : IsMultipleOf b.cols (sides b) l y = (scaled_solutions b.cols (sides b) other.choice other.feasible.width other.feasible.meets l y h.l_at_least_zero (yw ∙ same)).0 h.second in
      record {
        x = p.solution;
        y = q.solution;
        r = p.direction;
        t = q.direction;
        k = k;
        l = l;
        first = record { width = p.solution_wide; meets = p.meets };
        second = record { width = q.solution_wide; meets = q.meets };
        first_direction = record { width = p.direction_wide; meets = p.recedes };
        second_direction = record { width = q.direction_wide; meets = q.recedes };
        k_at_least_zero = h.k_at_least_zero;
        l_at_least_zero = h.l_at_least_zero;
        whole = h.whole;
        same = h.sum ∙ ap₂ plus p.same q.same ∙ plus_swap a.cols (scaled k p.solution) p.direction (scaled l q.solution) q.direction
            (length-scaled k p.solution ∙ p.solution_wide) p.direction_wide (length-scaled l q.solution ∙ q.solution_wide ∙ sym same) (q.direction_wide ∙ sym same);
      }

  forth : (z : List ℚ) (h : IsInProjection made a.cols z) → IsInJoin a b z
  forth z h =
      let n : ℕ = a.cols in
      let u : List ℚ = h.choice in
      let p : AreParts n (n + (n + 2)) u = parts n (n + (n + 2)) u (h.feasible.width ∙ m.cols ∙ wide) in
      let q : AreParts n (n + 2) (drop n u) = parts n (n + 2) (drop n u) p.back_width in
      let r : AreParts n 2 (drop n (drop n u)) = parts n 2 (drop n (drop n u)) q.back_width in
      let w : IsPair (drop n (drop n (drop n u))) = pair_of (drop n (drop n (drop n u))) r.back_width in
      subst (IsInJoin a b) h.begins (joined (take n u) (take n (drop n u)) (take n (drop n (drop n u))) w.first w.second p.front_width q.front_width r.front_width
      (from_fit a b same (take n u) (take n (drop n u)) (take n (drop n (drop n u))) w.first w.second p.front_width q.front_width r.front_width
      (subst (Fits (n + n + n + 2) (join_cells a b) (join_row_bounds a.cols (length (sides a)) (length (sides b))) (join_col_bounds a.cols))
      (p.same ∙ ap (λ v. take n u ++ v) (q.same ∙ ap (λ v. take n (drop n u) ++ v) (r.same ∙ ap (λ v. take n (drop n (drop n u)) ++ v) w.same)))
      (fits made (n + 1 + length (sides a) + length (sides b)) (n + n + n + 2) (join_cells a b) (join_row_bounds a.cols (length (sides a)) (length (sides b))) (join_col_bounds a.cols) u m h.feasible))))
    where
      wide : a.cols + a.cols + a.cols + 2 ≡ a.cols + (a.cols + (a.cols + 2))
      wide = omega arith

  back : (z : List ℚ) (h : IsInJoin a b z) → IsInProjection made a.cols z
  back z h =
      let n : ℕ = a.cols in
      let x : List ℚ = plus (scaled h.k h.x) h.r in
      let y : List ℚ = plus (scaled h.l h.y) h.t in
      let kx : length (scaled h.k h.x) ≡ n = length-scaled h.k h.x ∙ h.first.width in
      let ly : length (scaled h.l h.y) ≡ n = length-scaled h.l h.y ∙ h.second.width ∙ sym same in
      let tw : length h.t ≡ n = h.second_direction.width ∙ sym same in
      let xw : length x ≡ n = length-plus n (scaled h.k h.x) h.r kx h.first_direction.width in
      let yw : length y ≡ n = length-plus n (scaled h.l h.y) h.t ly tw in
      let z_is : z ≡ plus x y = h.same ∙ plus_swap n (scaled h.k h.x) (scaled h.l h.y) h.r h.t kx ly h.first_direction.width tw in
      let zw : length z ≡ n = ap length z_is ∙ length-plus n x y xw yw in
      record {
        choice = z ++ (x ++ (y ++ (h.k ∷ h.l ∷ [])));
        feasible = fitting made (n + 1 + length (sides a) + length (sides b)) (n + n + n + 2) (join_cells a b) (join_row_bounds a.cols (length (sides a)) (length (sides b))) (join_col_bounds a.cols) (z ++ (x ++ (y ++ (h.k ∷ h.l ∷ [])))) m
            (to_fit a b same z x y h.k h.l zw xw yw (record {
              sum = z_is;
              whole = h.whole;
              k_at_least_zero = h.k_at_least_zero;
              l_at_least_zero = h.l_at_least_zero;
              first = (scaled_solutions a.cols (sides a) some.choice some.feasible.width some.feasible.meets h.k x h.k_at_least_zero xw).1 (record {
                solution = h.x;
                direction = h.r;
                solution_wide = h.first.width;
                direction_wide = h.first_direction.width;
                meets = h.first.meets;
                recedes = h.first_direction.meets;
                same = refl;
              });
              second = (scaled_solutions b.cols (sides b) other.choice other.feasible.width other.feasible.meets h.l y h.l_at_least_zero (yw ∙ same)).1 (record {
                solution = h.y;
                direction = h.t;
                solution_wide = h.second.width;
                direction_wide = h.second_direction.width;
                meets = h.second.meets;
                recedes = h.second_direction.meets;
                same = refl;
              });
            }));
        begins = take-first n z (x ++ (y ++ (h.k ∷ h.l ∷ []))) zw;
      }

pub join_projects : JoinProjects
join_projects a b made same some other m z = (λ h. forth a b made same some other m z h, λ h. back a b made same some other m z h)
