-- Products with a row of a matrix, as sums over its cells.
use Rattle.std.proofs.Common.{◌≡◌, ℕ, zero, suc, ◌+◌, ◌-◌, ◌<◌, ◌≤◌, ◌==◌, ◌&&◌, not, Bool, true, false, cond, List, [], ◌∷◌, ◌++◌, map, length, All, slice_index_or, refl, sym, ap, ap₂, ◌∙◌, subst, arith}
use Rattle.std.proofs.lemmas.Bool.{cond-false}
use Rattle.std.proofs.lemmas.Bool.Decides.{nat_tests}
use Rattle.std.proofs.lemmas.List.Elements.{All-head, All-tail}
use Rattle.exact_field.specs.Rational.{ℚ, zero_ℚ, one_ℚ, ◌+ℚ◌, ◌*ℚ◌}
use Rattle.exact_field.specs.Vector.{entry, dot}
use Rattle.frac128.specs.Sparse.{is_zero}
use Rattle.polyhedra.proofs.Laws.{add_assoc, add_zero}
use Rattle.polyhedra.proofs.Algebra.{zero_add, zero_mul, one_mul, add_left_comm}
use Rattle.polyhedra.proofs.Tests.{both_true}
use Rattle.vlp_problem.specs.Cells.{coefficient, cells_after, place_before, is_within}
use Rattle.vlp_problem.specs.Sides.{numbers_from, unit}
use Rattle.vlp_problem.specs.declared.problem.Cell.{Cell}
use Rattle.projection.specs.Associated.{cell}
use Rattle.poly_calc.specs.Made.{moved}

-- ---- cells that lie within the sizes and rise
pub record IsPlaced (rows cols i j : ℕ) (c : Cell) : Type 0 where
  pub row_after : i ≤ c.row
  pub col_after : i ≡ c.row → j < c.col
  pub row_low : 1 ≤ c.row
  pub row_high : c.row ≤ rows
  pub col_low : 1 ≤ c.col
  pub col_high : c.col ≤ cols
  pub not_zero : is_zero c.value ≡ false

-- all after the place (i, j)
abbrev pub AreRising : ℕ → ℕ → ℕ → ℕ → List Cell → Type 0
AreRising rows cols i j [] = Unit {0}
AreRising rows cols i j (c ∷ cells) = IsPlaced rows cols i j c × AreRising rows cols c.row c.col cells

pub rising : (rows cols i j : ℕ) (cells : List Cell) → cells_after rows cols i j cells ≡ true → AreRising rows cols i j cells
rising rows cols i j [] h = tt
rising rows cols i j (c ∷ cells) h =
    let a = both_true (place_before i j c.row c.col) (is_within rows cols c.row c.col && (not (is_zero c.value) && cells_after rows cols c.row c.col cells)) h in
    let b = both_true (is_within rows cols c.row c.col) (not (is_zero c.value) && cells_after rows cols c.row c.col cells) a.1 in
    let d = both_true (not (is_zero c.value)) (cells_after rows cols c.row c.col cells) b.1 in (
      record {
        row_after = row c.row c.col a.0;
        col_after = col c.row c.col a.0;
        row_low = row_from c.row c.col b.0;
        row_high = row_to c.row c.col b.0;
        col_low = col_from c.row c.col b.0;
        col_high = col_to c.row c.col b.0;
        not_zero = of_not (is_zero c.value) d.0;
      },
      rising rows cols c.row c.col cells d.1,
    )
  where
    row : (r k : ℕ) → place_before i j r k ≡ true → i ≤ r
    row r k h = grind (arith, nat_tests)

    col : (r k : ℕ) → place_before i j r k ≡ true → i ≡ r → j < k
    col r k h e = grind (arith, nat_tests)

    row_from : (r k : ℕ) → is_within rows cols r k ≡ true → 1 ≤ r
    row_from r k h = grind (arith, nat_tests)

    row_to : (r k : ℕ) → is_within rows cols r k ≡ true → r ≤ rows
    row_to r k h = grind (arith, nat_tests)

    col_from : (r k : ℕ) → is_within rows cols r k ≡ true → 1 ≤ k
    col_from r k h = grind (arith, nat_tests)

    col_to : (r k : ℕ) → is_within rows cols r k ≡ true → k ≤ cols
    col_to r k h = grind (arith, nat_tests)

    of_not : (b : Bool) → not b ≡ true → b ≡ false
    of_not b h = grind (arith, nat_tests)

pub of_rising : (rows cols i j : ℕ) (cells : List Cell) → AreRising rows cols i j cells → cells_after rows cols i j cells ≡ true
of_rising rows cols i j [] h = refl
of_rising rows cols i j (c ∷ cells) h = all_true (before c.row c.col h.0.row_after h.0.col_after) (within c.row c.col h.0.row_low h.0.row_high h.0.col_low h.0.col_high)
    h.0.not_zero (of_rising rows cols c.row c.col cells h.1)
  where
    all_true : {p q r s : Bool} → p ≡ true → q ≡ true → r ≡ false → s ≡ true → (p && (q && (not r && s))) ≡ true
    all_true {p} {q} {r} {s} a b d e = grind (arith, nat_tests)

    before : (r k : ℕ) → i ≤ r → (i ≡ r → j < k) → place_before i j r k ≡ true
    before r k h g = grind (arith, nat_tests)

    within : (r k : ℕ) → 1 ≤ r → r ≤ rows → 1 ≤ k → k ≤ cols → is_within rows cols r k ≡ true
    within r k a b d e = grind (arith, nat_tests)

-- ---- sums
-- cells in no row i
abbrev pub NoneIn : ℕ → List Cell → Type 0
NoneIn i cells = All (λ (c : Cell). c.row ≡ i → ⊥) cells

-- the sum of the values of the cells in row i, each times what u has at its column
abbrev pub cell_sum : List Cell → ℕ → (ℕ → ℚ) → ℚ
cell_sum [] i u = zero_ℚ
cell_sum (c ∷ cells) i u = cond (c.row == i) (c.value *ℚ u c.col) zero_ℚ +ℚ cell_sum cells i u

pub cell_sum-append : (xs ys : List Cell) (i : ℕ) (u : ℕ → ℚ) → cell_sum (xs ++ ys) i u ≡ cell_sum xs i u +ℚ cell_sum ys i u
cell_sum-append [] ys i u = sym (zero_add (cell_sum ys i u))
cell_sum-append (c ∷ xs) ys i u = ap (λ q. cond (c.row == i) (c.value *ℚ u c.col) zero_ℚ +ℚ q) (cell_sum-append xs ys i u)
    ∙ sym (add_assoc (cond (c.row == i) (c.value *ℚ u c.col) zero_ℚ) (cell_sum xs i u) (cell_sum ys i u))

other_row : (r i : ℕ) → (r ≡ i → ⊥) → (r == i) ≡ false
other_row r i h = grind (arith, nat_tests)

own_row : (i : ℕ) → (i == i) ≡ true
own_row i = grind (arith, nat_tests)

pub cell_sum-none : (cells : List Cell) (i : ℕ) (u : ℕ → ℚ) → NoneIn i cells → cell_sum cells i u ≡ zero_ℚ
cell_sum-none [] i u h = refl
cell_sum-none (c ∷ cells) i u h =
    ap₂ (λ b q. cond b (c.value *ℚ u c.col) zero_ℚ +ℚ q) (other_row c.row i (All-head (λ (d : Cell). d.row ≡ i → ⊥) c cells h))
    (cell_sum-none cells i u (All-tail (λ (d : Cell). d.row ≡ i → ⊥) c cells h))
    ∙ add_zero zero_ℚ

-- one cell more in the row
pub cell_sum-own : (i j : ℕ) (v : ℚ) (cells : List Cell) (u : ℕ → ℚ) → cell_sum (cell i j v ∷ cells) i u ≡ v *ℚ u j +ℚ cell_sum cells i u
cell_sum-own i j v cells u = ap (λ b. cond b (v *ℚ u j) zero_ℚ +ℚ cell_sum cells i u) (own_row i)

-- a cell in one of the first n columns, and entries that are alike there
pub record IsInColumns (n : ℕ) (c : Cell) : Type 0 where
  pub low : 1 ≤ c.col
  pub high : c.col ≤ n

pub cell_sum-same : (n : ℕ) (cells : List Cell) (i : ℕ) (u w : ℕ → ℚ) → All (IsInColumns n) cells → ((j : ℕ) → 1 ≤ j → j ≤ n → u j ≡ w j) → cell_sum cells i u ≡ cell_sum cells i w
cell_sum-same n [] i u w h e = refl
cell_sum-same n (c ∷ cells) i u w h e =
    let here = All-head (IsInColumns n) c cells h in
    ap₂ (λ p q. cond (c.row == i) (c.value *ℚ p) zero_ℚ +ℚ q) (e c.col here.low here.high) (cell_sum-same n cells i u w (All-tail (IsInColumns n) c cells h) e)

pub cell_sum-moved : (r k i i' : ℕ) (cells : List Cell) (u : ℕ → ℚ) → i' ≡ i + r → cell_sum (moved r k cells) i' u ≡ cell_sum cells i (λ j. u (j + k))
cell_sum-moved r k i i' [] u e = refl
cell_sum-moved r k i i' (c ∷ cells) u e = ap₂ (λ b q. cond b (c.value *ℚ u (c.col + k)) zero_ℚ +ℚ q) (same c.row) (cell_sum-moved r k i i' cells u e)
  where
    same : (x : ℕ) → (x + r == i') ≡ (x == i)
    same x = grind (arith, nat_tests)

-- ---- the rows of a matrix
-- the matrix is 0 at the places up to (i, j) in row i'
later : (rows cols i j i' k : ℕ) (cells : List Cell) → AreRising rows cols i j cells → i' ≤ i → (i' ≡ i → k ≤ j) → coefficient cells i' k ≡ zero_ℚ
later rows cols i j i' k [] h l e = refl
later rows cols i j i' k (c ∷ cells) h l e =
    cond-false (c.row == i' && c.col == k) c.value (coefficient cells i' k) (off c.row c.col h.0.row_after h.0.col_after)
    ∙ later rows cols c.row c.col i' k cells h.1 (below c.row h.0.row_after) (to_right c.row c.col h.0.row_after h.0.col_after)
  where
    off : (r m : ℕ) → i ≤ r → (i ≡ r → j < m) → (r == i' && m == k) ≡ false
    off r m a b = grind (arith, nat_tests)

    below : (r : ℕ) → i ≤ r → i' ≤ r
    below r a = omega arith

    to_right : (r m : ℕ) → i ≤ r → (i ≡ r → j < m) → i' ≡ r → k ≤ m
    to_right r m a b f = grind (arith, nat_tests)

-- a number at one place more
tail_same : (k s : ℕ) (v : ℚ) (f : ℕ → ℚ) (m : ℕ) → k < s → map (λ j. cond (k == j) v (f j)) (numbers_from s m) ≡ map f (numbers_from s m)
tail_same k s v f zero l = refl
tail_same k s v f (suc m) l = ap₂ (λ p w. p ∷ w) (cond-false (k == s) v (f s) (unlike l)) (tail_same k (suc s) v f m (omega arith))
  where
    unlike : k < s → (k == s) ≡ false
    unlike h = grind (arith, nat_tests)

one_more : (k s : ℕ) (v : ℚ) (f : ℕ → ℚ) (x : List ℚ) → s ≤ k → k < s + length x → f k ≡ zero_ℚ →
    dot (map (λ j. cond (k == j) v (f j)) (numbers_from s (length x))) x ≡ v *ℚ slice_index_or x (k - s) zero_ℚ +ℚ dot (map f (numbers_from s (length x))) x
one_more k s v f [] l u e = absurd (omega arith)
one_more k s v f (a ∷ x) l u e = go (k == s) refl (λ m. one_more k (suc s) v f x m (omega arith) e)
  where
    equal : (k == s) ≡ true → k ≡ s
    equal h = grind (arith, nat_tests)

    unequal : (k == s) ≡ false → suc s ≤ k
    unequal h = grind (arith, nat_tests)

    at_first : (n : ℕ) → n ≡ 0 → slice_index_or (a ∷ x) n zero_ℚ ≡ a
    at_first n h = ap (λ (t : ℕ). slice_index_or (a ∷ x) t zero_ℚ) h

    at_next : (n t : ℕ) → n ≡ suc t → slice_index_or (a ∷ x) n zero_ℚ ≡ slice_index_or x t zero_ℚ
    at_next n t h = ap (λ (t : ℕ). slice_index_or (a ∷ x) t zero_ℚ) h

    go : (b : Bool) → (k == s) ≡ b →
        (suc s ≤ k → dot (map (λ j. cond (k == j) v (f j)) (numbers_from (suc s) (length x))) x ≡ v *ℚ slice_index_or x (k - suc s) zero_ℚ +ℚ dot (map f (numbers_from (suc s) (length x))) x) →
        cond (k == s) v (f s) *ℚ a +ℚ dot (map (λ j. cond (k == j) v (f j)) (numbers_from (suc s) (length x))) x
        ≡ v *ℚ slice_index_or (a ∷ x) (k - s) zero_ℚ +ℚ (f s *ℚ a +ℚ dot (map f (numbers_from (suc s) (length x))) x)
    go true h again =
        let here : k ≡ s = equal h in
        ap₂ (λ b w. cond b v (f s) *ℚ a +ℚ dot w x) h (tail_same k (suc s) v f (length x) (omega arith))
        ∙ ap₂ (λ p q. v *ℚ p +ℚ q) (sym (at_first (k - s) (omega arith)))
        (sym (ap (λ p. p *ℚ a +ℚ dot (map f (numbers_from (suc s) (length x))) x) (sym (ap f here) ∙ e)
        ∙ ap (λ p. p +ℚ dot (map f (numbers_from (suc s) (length x))) x) (zero_mul a) ∙ zero_add (dot (map f (numbers_from (suc s) (length x))) x)))
    go false h again =
        let next : suc s ≤ k = unequal h in
        ap₂ (λ b q. cond b v (f s) *ℚ a +ℚ q) h (again next)
        ∙ add_left_comm (f s *ℚ a) (v *ℚ slice_index_or x (k - suc s) zero_ℚ) (dot (map f (numbers_from (suc s) (length x))) x)
        ∙ ap (λ p. v *ℚ p +ℚ (f s *ℚ a +ℚ dot (map f (numbers_from (suc s) (length x))) x)) (sym (at_next (k - s) (k - suc s) (omega arith)))

none_at_all : (s : ℕ) (x : List ℚ) → dot (map (λ j. zero_ℚ) (numbers_from s (length x))) x ≡ zero_ℚ
none_at_all s [] = refl
none_at_all s (a ∷ x) = ap₂ (λ p q. p +ℚ q) (zero_mul a) (none_at_all (suc s) x) ∙ add_zero zero_ℚ

row_product : (rows i j k : ℕ) (cells : List Cell) (x : List ℚ) → AreRising rows (length x) i j cells →
    dot (map (λ m. coefficient cells k m) (numbers_from 1 (length x))) x ≡ cell_sum cells k (entry x)
row_product rows i j k [] x h = none_at_all 1 x
row_product rows i j k (c ∷ cells) x h = go (c.row == k) refl (row_product rows c.row c.col k cells x h.1)
  where
    equal : (r : ℕ) → (r == k) ≡ true → k ≡ r
    equal r e = grind (arith, nat_tests)

    go : (b : Bool) → (c.row == k) ≡ b → dot (map (λ m. coefficient cells k m) (numbers_from 1 (length x))) x ≡ cell_sum cells k (entry x) →
        dot (map (λ m. cond (c.row == k && c.col == m) c.value (coefficient cells k m)) (numbers_from 1 (length x))) x
        ≡ cond (c.row == k) (c.value *ℚ entry x c.col) zero_ℚ +ℚ cell_sum cells k (entry x)
    go true e again =
        ap (λ b. dot (map (λ m. cond (b && c.col == m) c.value (coefficient cells k m)) (numbers_from 1 (length x))) x) e
        ∙ one_more c.col 1 c.value (λ m. coefficient cells k m) x h.0.col_low (above c.col h.0.col_high)
        (later rows (length x) c.row c.col k c.col cells h.1 (from_equal c.row (equal c.row e)) (λ _. le_self c.col))
        ∙ ap₂ (λ b q. cond b (c.value *ℚ entry x c.col) zero_ℚ +ℚ q) (sym e) again
      where
        above : (m : ℕ) → m ≤ length x → m < 1 + length x
        above m l = omega arith

        from_equal : (r : ℕ) → k ≡ r → k ≤ r
        from_equal r f = omega arith

        le_self : (m : ℕ) → m ≤ m
        le_self m = omega arith
    go false e again =
        ap (λ b. dot (map (λ m. cond (b && c.col == m) c.value (coefficient cells k m)) (numbers_from 1 (length x))) x) e
        ∙ again ∙ sym (zero_add (cell_sum cells k (entry x))) ∙ ap (λ b. cond b (c.value *ℚ entry x c.col) zero_ℚ +ℚ cell_sum cells k (entry x)) (sym e)

pub row-product : (rows cols k : ℕ) (cells : List Cell) (x : List ℚ) → cells_after rows cols 0 0 cells ≡ true → length x ≡ cols →
    dot (map (λ m. coefficient cells k m) (numbers_from 1 cols)) x ≡ cell_sum cells k (entry x)
row-product rows cols k cells x h e = subst (λ (n : ℕ). dot (map (λ m. coefficient cells k m) (numbers_from 1 n)) x ≡ cell_sum cells k (entry x)) e
    (row_product rows 0 0 k cells x (subst (λ (n : ℕ). AreRising rows n 0 0 cells) (sym e) (rising rows cols 0 0 cells h)))

-- the unit vectors read the entries
pub unit-product : (n k : ℕ) (x : List ℚ) → length x ≡ n → 1 ≤ k → k ≤ n → dot (unit n k) x ≡ entry x k
unit-product n k x e l u = subst (λ (m : ℕ). dot (map (λ j. cond (j == k) one_ℚ zero_ℚ) (numbers_from 1 m)) x ≡ entry x k) e
    (ap (λ v. dot v x) (turned 1 (length x))
    ∙ one_more k 1 one_ℚ (λ _. zero_ℚ) x l (bound (length x) e) refl
    ∙ ap₂ (λ p q. p +ℚ q) (one_mul (entry x k)) (none_at_all 1 x) ∙ add_zero (entry x k))
  where
    bound : (m : ℕ) → m ≡ n → k < 1 + m
    bound m f = omega arith

    turn : (j : ℕ) → (j == k) ≡ (k == j)
    turn j = grind (arith, nat_tests)

    turned : (s m : ℕ) → map (λ j. cond (j == k) one_ℚ zero_ℚ) (numbers_from s m) ≡ map (λ j. cond (k == j) one_ℚ zero_ℚ) (numbers_from s m)
    turned s zero = refl
    turned s (suc m) = ap₂ (λ b w. cond b one_ℚ zero_ℚ ∷ w) (turn s) (turned (suc s) m)
