-- The cells of a matrix whose entries a function gives.
use Rattle.std.proofs.Common.{◌≡◌, refl, ℕ, zero, suc, ◌+◌, ◌<◌, ◌≤◌, inl, inr, true, false, not, ◌&&◌, ◌==◌, if◌then◌else◌, List, [], ◌∷◌, arith, sym, ◌∙◌, subst}
use Rattle.std.proofs.lemmas.Bool.{and_from, cond-true, cond-false, cond_both, cases_Bool, not_from_false}
use Rattle.std.proofs.lemmas.Bool.Decides.{nat_tests}
use Rattle.exact_field.specs.Rational.{ℚ, zero_ℚ}
use Rattle.frac128.specs.Sparse.{is_zero}
use Rattle.vlp_problem.specs.Cells.{place_before, is_within, cells_after, are_cells, coefficient}
use Rattle.vlp_problem.specs.declared.problem.Cell.{Cell}
use Rattle.vlp_problem.proofs.Zero.{zero_is}

abbrev pub cell_at : (ℕ → ℕ → ℚ) → ℕ → ℕ → Cell
cell_at f row col = record { row = row; col = col; value = f row col }

-- those of a row from column k on, n of them, before others
abbrev pub row_cells : (ℕ → ℕ → ℚ) → (row k n : ℕ) → List Cell → List Cell
row_cells f row k zero rest = rest
row_cells f row k (suc n) rest = if is_zero (f row k) then row_cells f row (suc k) n rest else (cell_at f row k ∷ row_cells f row (suc k) n rest)

-- those of the rows from k on, n of them
abbrev pub built_cells : (ℕ → ℕ → ℚ) → (cols k n : ℕ) → List Cell
built_cells f cols k zero = []
built_cells f cols k (suc n) = row_cells f k 1 cols (built_cells f cols (suc k) n)

-- ---- they rise within the sizes
-- a place stands before another
data Before (i j row col : ℕ) : Type 0 where
  above : i < row → Before i j row col
  left : i ≡ row → j < col → Before i j row col

before_test : (i j row col : ℕ) → Before i j row col → place_before i j row col ≡ true
before_test i j row col (above h) = grind (arith, nat_tests)
before_test i j row col (left h k) = grind (arith, nat_tests)

before_next : (i j row k : ℕ) → Before i j row k → Before i j row (suc k)
before_next i j row k (above h) = above h
before_next i j row k (left h l) = left h (omega arith)

within_test : (rows cols row col : ℕ) → 1 ≤ row → row ≤ rows → 1 ≤ col → col ≤ cols → is_within rows cols row col ≡ true
within_test rows cols row col a b c d = grind (arith, nat_tests)

at_most : (i j row col : ℕ) → Before i j row col → i ≤ row
at_most i j row col (above h) = omega arith
at_most i j row col (left h k) = omega arith

row_after : (f : ℕ → ℕ → ℚ) (rows cols row k n i j : ℕ) (rest : List Cell) → 1 ≤ row → row ≤ rows → 1 ≤ k → k + n ≤ cols + 1 → Before i j row k
    → ((x y : ℕ) → x ≤ row → cells_after rows cols x y rest ≡ true) → cells_after rows cols i j (row_cells f row k n rest) ≡ true
row_after f rows cols row k zero i j rest a b c d before more = more i j (at_most i j row k before)
row_after f rows cols row k (suc n) i j rest a b c d before more =
    let next = row_cells f row (suc k) n rest in
    cond_both (is_zero (f row k)) next (cell_at f row k ∷ next) (λ l. cells_after rows cols i j l ≡ true)
    (λ zero_value. row_after f rows cols row (suc k) n i j rest a b (omega arith) (omega arith) (before_next i j row k before) more)
    (λ some_value.
    and_from (place_before i j row k) _ (before_test i j row k before)
    (and_from (is_within rows cols row k) _ (within_test rows cols row k a b c (omega arith))
    (and_from (not (is_zero (f row k))) _ (not_from_false (is_zero (f row k)) some_value)
    (row_after f rows cols row (suc k) n row k rest a b (omega arith) (omega arith) (left refl (omega arith)) more))))

built_after : (f : ℕ → ℕ → ℚ) (rows cols k n i j : ℕ) → 1 ≤ k → k + n ≤ rows + 1 → i < k → cells_after rows cols i j (built_cells f cols k n) ≡ true
built_after f rows cols k zero i j a b c = refl
built_after f rows cols k (suc n) i j a b c =
    row_after f rows cols k 1 cols i j (built_cells f cols (suc k) n) a (omega arith) (omega arith) (omega arith) (above c)
    (λ x y h. built_after f rows cols (suc k) n x y (omega arith) (omega arith) (omega arith))

pub built_are_cells : (f : ℕ → ℕ → ℚ) (rows cols : ℕ) → are_cells rows cols (built_cells f cols 1 rows) ≡ true
built_are_cells f rows cols = built_after f rows cols 1 rows 0 0 (omega arith) (omega arith) (omega arith)

-- ---- their entries
other_place : (row k i j : ℕ) → (row ≡ i → k ≡ j → ⊥) → (row == i && k == j) ≡ false
other_place row k i j h = elim (cases_Bool (row == i && k == j)) [
  | inl same ↦ absurd (h (grind (arith, nat_tests)) (grind (arith, nat_tests)))
  | inr other ↦ other
]

same_place : (row k i j : ℕ) → row ≡ i → k ≡ j → (row == i && k == j) ≡ true
same_place row k i j h l = grind (arith, nat_tests)

-- a cell at another place adds nothing
past : (c : Cell) (cells : List Cell) (i j : ℕ) → (c.row ≡ i → c.col ≡ j → ⊥) → coefficient (c ∷ cells) i j ≡ coefficient cells i j
past c cells i j h = cond-false (c.row == i && c.col == j) c.value (coefficient cells i j) (other_place c.row c.col i j h)

row_past : (f : ℕ → ℕ → ℚ) (row k n i j : ℕ) (rest : List Cell) → ((col : ℕ) → k ≤ col → col < k + n → row ≡ i → col ≡ j → ⊥) → coefficient (row_cells f row k n rest) i j ≡ coefficient rest i j
row_past f row k zero i j rest h = refl
row_past f row k (suc n) i j rest h =
    let next = row_cells f row (suc k) n rest in
    let more : coefficient next i j ≡ coefficient rest i j = row_past f row (suc k) n i j rest (λ col a b. h col (omega arith) (omega arith)) in
    cond_both (is_zero (f row k)) next (cell_at f row k ∷ next) (λ l. coefficient l i j ≡ coefficient rest i j) (λ _. more)
    (λ _. past (cell_at f row k) next i j (h k (omega arith) (omega arith)) ∙ more)

row_here : (f : ℕ → ℕ → ℚ) (row k n j : ℕ) (rest : List Cell) → k ≤ j → j < k + n → coefficient rest row j ≡ zero_ℚ → coefficient (row_cells f row k n rest) row j ≡ f row j
row_here f row k zero j rest a b none = absurd (omega arith)
row_here f row k (suc n) j rest a b none =
    let next = row_cells f row (suc k) n rest in
    elim (cases_Bool (k == j)) [
      | inl here ↦
          let same : k ≡ j = grind (arith, nat_tests) in
          let later : coefficient next row j ≡ zero_ℚ = row_past f row (suc k) n row j rest (λ col c d e g. absurd (omega arith)) ∙ none in
          subst (λ (m : ℕ). coefficient (row_cells f row k (suc n) rest) row j ≡ f row m) same
          (cond_both (is_zero (f row k)) next (cell_at f row k ∷ next) (λ l. coefficient l row j ≡ f row k) (λ z. later ∙ sym (zero_is (f row k) z))
          (λ _. cond-true (row == row && k == j) (f row k) (coefficient next row j) (same_place row k row j refl same)))
      | inr off ↦
          let other : k ≡ j → ⊥ = λ e. absurd (grind (arith, nat_tests)) in
          let more : coefficient next row j ≡ f row j = row_here f row (suc k) n j rest (omega arith) (omega arith) none in
          cond_both (is_zero (f row k)) next (cell_at f row k ∷ next) (λ l. coefficient l row j ≡ f row j) (λ _. more) (λ _. past (cell_at f row k) next row j (λ e g. other g) ∙ more)
    ]

built_past : (f : ℕ → ℕ → ℚ) (cols k n i j : ℕ) → ((row col : ℕ) → k ≤ row → row < k + n → 1 ≤ col → col < 1 + cols → row ≡ i → col ≡ j → ⊥) → coefficient (built_cells f cols k n) i j ≡ zero_ℚ
built_past f cols k zero i j h = refl
built_past f cols k (suc n) i j h =
    row_past f k 1 cols i j (built_cells f cols (suc k) n) (λ col a b. h k col (omega arith) (omega arith) a b)
    ∙ built_past f cols (suc k) n i j (λ row col a b c d. h row col (omega arith) (omega arith) c d)

built_here : (f : ℕ → ℕ → ℚ) (cols k n i j : ℕ) → k ≤ i → i < k + n → 1 ≤ j → j < 1 + cols → coefficient (built_cells f cols k n) i j ≡ f i j
built_here f cols k zero i j a b c d = absurd (omega arith)
built_here f cols k (suc n) i j a b c d = elim (cases_Bool (k == i)) [
  | inl here ↦
      let same : k ≡ i = grind (arith, nat_tests) in
      subst (λ (m : ℕ). coefficient (built_cells f cols k (suc n)) m j ≡ f m j) same
      (row_here f k 1 cols j (built_cells f cols (suc k) n) c d (built_past f cols (suc k) n k j (λ row col x y z w e g. absurd (omega arith))))
  | inr off ↦
      let other : k ≡ i → ⊥ = λ e. absurd (grind (arith, nat_tests)) in
      row_past f k 1 cols i j (built_cells f cols (suc k) n) (λ col x y e g. other e) ∙ built_here f cols (suc k) n i j (more_le k i a other) (omega arith) c d
]
  where
    more_le : (k i : ℕ) → k ≤ i → (k ≡ i → ⊥) → suc k ≤ i
    more_le k i h other = omega arith

-- the entries that a function gives places within the sizes, where it is 0 elsewhere
pub built_entries : (f : ℕ → ℕ → ℚ) (rows cols : ℕ) → ((i j : ℕ) → is_within rows cols i j ≡ false → f i j ≡ zero_ℚ) → (i j : ℕ) → coefficient (built_cells f cols 1 rows) i j ≡ f i j
built_entries f rows cols outside i j = elim (cases_Bool (is_within rows cols i j)) [
  | inl within ↦
      built_here f cols 1 rows i j (grind (arith, nat_tests)) (grind (arith, nat_tests)) (grind (arith, nat_tests)) (grind (arith, nat_tests))
  | inr off ↦
      built_past f cols 1 rows i j (λ row col a b c d e g. absurd (contradicts rows cols i j off (omega arith) (omega arith) (omega arith) (omega arith))) ∙ sym (outside i j off)
]
  where
    contradicts : (rows cols i j : ℕ) → is_within rows cols i j ≡ false → 1 ≤ i → i ≤ rows → 1 ≤ j → j ≤ cols → ⊥
    contradicts rows cols i j off a b c d = grind (arith, nat_tests)
