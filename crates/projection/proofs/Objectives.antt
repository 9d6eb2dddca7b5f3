-- The associated objectives: the first k entries, and minus their sum.
use Rattle.std.proofs.Common.{◌≡◌, ℕ, zero, suc, ◌+◌, ◌-◌, ◌<◌, ◌≤◌, ◌==◌, ◌&&◌, Bool, true, false, cond, List, [], ◌∷◌, ◌++◌, map, length, take, slice_index_or, refl, sym, ap, ap₂, ◌∙◌, subst, arith}
use Rattle.std.proofs.lemmas.Bool.{cond-false}
use Rattle.std.proofs.lemmas.Bool.Decides.{nat_tests}
use Rattle.exact_field.specs.Rational.{ℚ, zero_ℚ, one_ℚ, neg_ℚ}
use Rattle.exact_field.specs.Vector.{dot, sum_ℚ}
use Rattle.polyhedra.specs.Inequality.{Inequality}
use Rattle.polyhedra.specs.Vectors.{values}
use Rattle.vlp_problem.specs.Cells.{coefficient}
use Rattle.vlp_problem.specs.Sides.{numbers_from, sides_from, unit}
use Rattle.vlp_problem.specs.declared.problem.Bound.{Bound}
use Rattle.vlp_problem.specs.declared.problem.Cell.{Cell}
use Rattle.vlp_problem.specs.declared.problem.Dir.{Dir}
use Rattle.vlp_problem.specs.declared.problem.Dir.TheVariants.{Min}
use Rattle.upper_image.specs.UpperImage.{signed, objectives}
use Rattle.representations.specs.Projection.{spread}
use Rattle.projection.specs.Associated.{cell, associated_cells}
use Rattle.projection.specs.Laws.{AssociatedIsAssociated}
use Rattle.projection.proofs.Numbers.{same_numbers, last_number, values_numbers, pick, negative_sum, front}

-- ---- entries
abbrev pub diagonal : ℕ → ℕ → List Cell
diagonal s m = map (λ j. cell j j one_ℚ) (numbers_from s m)

abbrev pub last_row : ℕ → ℕ → ℕ → List Cell
last_row k s m = map (λ j. cell (suc k) j (neg_ℚ one_ℚ)) (numbers_from s m)

here : (t i j : ℕ) → t ≡ i → t ≡ j → (t == i && t == j) ≡ true
here t i j e f = grind (arith, nat_tests)

not_row : (t u i j : ℕ) → (t ≡ i → ⊥) → (t == i && u == j) ≡ false
not_row t u i j e = grind (arith, nat_tests)

not_col : (t u i j : ℕ) → (u ≡ j → ⊥) → (t == i && u == j) ≡ false
not_col t u i j e = grind (arith, nat_tests)

not_both : (t i j : ℕ) → (i ≡ j → ⊥) → (t == i && t == j) ≡ false
not_both t i j e = grind (arith, nat_tests)

equal : (a b : ℕ) → (a == b) ≡ true → a ≡ b
equal a b e = grind (arith, nat_tests)

unequal : (a b : ℕ) → (a == b) ≡ false → a ≡ b → ⊥
unequal a b e = grind (arith, nat_tests)

diagonal_miss : (s m i j : ℕ) (rest : List Cell) → (i ≡ j → ⊥) → coefficient (diagonal s m ++ rest) i j ≡ coefficient rest i j
diagonal_miss s zero i j rest h = refl
diagonal_miss s (suc m) i j rest h =
    cond-false (s == i && s == j) one_ℚ (coefficient (map (λ t. cell t t one_ℚ) (numbers_from (suc s) m) ++ rest) i j) (not_both s i j h) ∙ diagonal_miss (suc s) m i j rest h

diagonal_past : (s m i j : ℕ) (rest : List Cell) → s + m ≤ i → coefficient (diagonal s m ++ rest) i j ≡ coefficient rest i j
diagonal_past s zero i j rest h = refl
diagonal_past s (suc m) i j rest h =
    cond-false (s == i && s == j) one_ℚ (coefficient (map (λ t. cell t t one_ℚ) (numbers_from (suc s) m) ++ rest) i j)
    (not_row s s i j (apart s m i h)) ∙ diagonal_past (suc s) m i j rest (omega arith)
  where
    apart : (a b c : ℕ) → a + suc b ≤ c → a ≡ c → ⊥
    apart a b c u e = omega arith

diagonal_hit : (s m i : ℕ) (rest : List Cell) → s ≤ i → i < s + m → coefficient (diagonal s m ++ rest) i i ≡ one_ℚ
diagonal_hit s zero i rest l u = absurd (omega arith)
diagonal_hit s (suc m) i rest l u = go (s == i) refl (λ v. diagonal_hit (suc s) m i rest v (omega arith))
  where
    go : (b : Bool) → (s == i) ≡ b → (suc s ≤ i → coefficient (map (λ t. cell t t one_ℚ) (numbers_from (suc s) m) ++ rest) i i ≡ one_ℚ) →
        cond (s == i && s == i) one_ℚ (coefficient (map (λ t. cell t t one_ℚ) (numbers_from (suc s) m) ++ rest) i i) ≡ one_ℚ
    go true e again = ap (λ b. cond b one_ℚ (coefficient (map (λ t. cell t t one_ℚ) (numbers_from (suc s) m) ++ rest) i i)) (here s i i (equal s i e) (equal s i e))
    go false e again =
        let away : s ≡ i → ⊥ = unequal s i e in
        cond-false (s == i && s == i) one_ℚ (coefficient (map (λ t. cell t t one_ℚ) (numbers_from (suc s) m) ++ rest) i i) (not_row s s i i away) ∙ again (omega arith)

last_other : (k s m i j : ℕ) → (i ≡ suc k → ⊥) → coefficient (last_row k s m) i j ≡ zero_ℚ
last_other k s zero i j h = refl
last_other k s (suc m) i j h =
    cond-false (suc k == i && s == j) (neg_ℚ one_ℚ) (coefficient (map (λ t. cell (suc k) t (neg_ℚ one_ℚ)) (numbers_from (suc s) m)) i j) (not_row (suc k) s i j (λ e. h (sym e)))
    ∙ last_other k (suc s) m i j h

last_past : (k s m j : ℕ) → s + m ≤ j → coefficient (last_row k s m) (suc k) j ≡ zero_ℚ
last_past k s zero j h = refl
last_past k s (suc m) j h =
    cond-false (suc k == suc k && s == j) (neg_ℚ one_ℚ) (coefficient (map (λ t. cell (suc k) t (neg_ℚ one_ℚ)) (numbers_from (suc s) m)) (suc k) j)
    (not_col (suc k) s (suc k) j (apart s m j h)) ∙ last_past k (suc s) m j (omega arith)
  where
    apart : (a b c : ℕ) → a + suc b ≤ c → a ≡ c → ⊥
    apart a b c u e = omega arith

last_hit : (k s m j : ℕ) → s ≤ j → j < s + m → coefficient (last_row k s m) (suc k) j ≡ neg_ℚ one_ℚ
last_hit k s zero j l u = absurd (omega arith)
last_hit k s (suc m) j l u = go (s == j) refl (λ v. last_hit k (suc s) m j v (omega arith))
  where
    both : (s == j) ≡ true → (suc k == suc k && s == j) ≡ true
    both e = grind (arith, nat_tests)

    go : (b : Bool) → (s == j) ≡ b → (suc s ≤ j → coefficient (map (λ t. cell (suc k) t (neg_ℚ one_ℚ)) (numbers_from (suc s) m)) (suc k) j ≡ neg_ℚ one_ℚ) →
        cond (suc k == suc k && s == j) (neg_ℚ one_ℚ) (coefficient (map (λ t. cell (suc k) t (neg_ℚ one_ℚ)) (numbers_from (suc s) m)) (suc k) j) ≡ neg_ℚ one_ℚ
    go true e again = ap (λ b. cond b (neg_ℚ one_ℚ) (coefficient (map (λ t. cell (suc k) t (neg_ℚ one_ℚ)) (numbers_from (suc s) m)) (suc k) j)) (both e)
    go false e again =
        let away : s ≡ j → ⊥ = unequal s j e in
        cond-false (suc k == suc k && s == j) (neg_ℚ one_ℚ) (coefficient (map (λ t. cell (suc k) t (neg_ℚ one_ℚ)) (numbers_from (suc s) m)) (suc k) j) (not_col (suc k) s (suc k) j away)
        ∙ again (omega arith)

-- ---- the values
row : ℕ → ℕ → ℕ → List ℚ
row k n i = map (λ j. coefficient (associated_cells k) i j) (numbers_from 1 n)

row_value : (k i : ℕ) (x : List ℚ) → k ≤ length x → 1 ≤ i → i < 1 + k → dot (row k (length x) i) x ≡ slice_index_or x (i - 1) zero_ℚ
unfolding row
row_value k i x below l u = pick (λ j. coefficient (associated_cells k) i j) i 1 x l (diagonal_hit 1 k i (last_row k 1 k) l u)
    (λ j h. diagonal_miss 1 k i j (last_row k 1 k) (λ e. h (sym e)) ∙ last_other k 1 k i j (λ e. absurd (omega arith))) (omega arith)

last_value : (k : ℕ) (x : List ℚ) → dot (row k (length x) (suc k)) x ≡ neg_ℚ (sum_ℚ (take k x))
unfolding row
last_value k x = negative_sum (λ j. coefficient (associated_cells k) (suc k) j) k 1 x
    (λ j l u. diagonal_past 1 k (suc k) j (last_row k 1 k) (omega arith) ∙ last_hit k 1 k j l u)
    (λ j l. diagonal_past 1 k (suc k) j (last_row k 1 k) (omega arith) ∙ last_past k 1 k j l)

rows_value : (k : ℕ) (x : List ℚ) → k ≤ length x → values (map (row k (length x)) (numbers_from 1 (suc k))) x ≡ spread (take k x)
rows_value k x below =
    values_numbers (row k (length x)) x 1 (suc k)
    ∙ last_number (λ i. dot (row k (length x) i) x) 1 k
    ∙ ap₂ (λ a b. a ++ b ∷ [])
    (same_numbers (λ i. dot (row k (length x) i) x) (λ i. slice_index_or x (i - 1) zero_ℚ) 1 k (λ i l u. row_value k i x below l u) ∙ front 1 k x below)
    (ap (λ (i : ℕ). dot (row k (length x) i) x) (next k) ∙ last_value k x)
  where
    next : (a : ℕ) → 1 + a ≡ suc a
    next a = omega arith

-- ---- the problem
-- the objectives by their parts
made_of : Dir → List Cell → ℕ → ℕ → List (List ℚ)
made_of dir o n m = map (λ i. map (λ j. signed dir (coefficient o i j)) (numbers_from 1 n)) (numbers_from 1 m)

abbrev pub sides_by : List Cell → ℕ → List Bound → List Bound → List Inequality
sides_by a n of_rows of_cols = sides_from (λ i. map (λ j. coefficient a i j) (numbers_from 1 n)) 1 of_rows ++ sides_from (unit n) 1 of_cols

pub associated_is_associated : AssociatedIsAssociated
unfolding made_of row
associated_is_associated k file made below s = record {
  same_sides = ap (λ a. sides_by a made.cols made.row_bounds made.col_bounds) s.a
      ∙ ap (λ n. sides_by file.a n made.row_bounds made.col_bounds) s.cols
      ∙ ap₂ (λ u v. sides_by file.a file.cols u v) s.row_bounds s.col_bounds;
  values = λ x width.
      let parts : objectives made ≡ map (row k file.cols) (numbers_from 1 (suc k)) =
      ap (λ d. made_of d made.o made.cols made.objs) s.dir
      ∙ ap₂ (λ o n. made_of Min o n made.objs) s.o s.cols
      ∙ ap (λ m. made_of Min (associated_cells k) file.cols m) s.objs in
      ap (λ v. values v x) parts ∙ ap (λ n. values (map (row k n) (numbers_from 1 (suc k))) x) (sym width)
      ∙ rows_value k x (subst (λ (n : ℕ). k ≤ n) (sym width) below);
}
