-- The cells of the associated objectives: within their sizes, in rising order, and not 0.
use Rattle.std.proofs.Common.{◌≡◌, ℕ, zero, suc, ◌+◌, ◌<◌, ◌≤◌, ◌&&◌, Bool, true, not, List, [], ◌∷◌, ◌++◌, map, refl, sym, ap, ap₂, ◌∙◌, arith, pos, negsuc}
use Rattle.std.proofs.lemmas.Bool.Decides.{nat_tests}
use Rattle.std.proofs.lemmas.List.{append_assoc}
use Rattle.exact_field.specs.Rational.{ℚ, one_ℚ, neg_ℚ, whole}
use Rattle.exact_field.proofs.RationalLaws.{whole-neg}
use Rattle.frac128.specs.Sparse.{is_zero}
use Rattle.vlp_problem.specs.Cells.{place_before, is_within, cells_after, are_cells}
use Rattle.vlp_problem.specs.Sides.{numbers_from}
use Rattle.vlp_problem.specs.declared.problem.Cell.{Cell}
use Rattle.projection.specs.Associated.{cell, associated_cells}
use Rattle.projection.proofs.Numbers.{last_number}
use Rattle.projection.proofs.Objectives.{diagonal, last_row}

one_kept : not (is_zero one_ℚ) ≡ true
unfolding whole
one_kept = refl

minus_one_kept : not (is_zero (neg_ℚ one_ℚ)) ≡ true
unfolding whole neg_ℚ
minus_one_kept = refl

all_four : (p q r t : Bool) → p ≡ true → q ≡ true → r ≡ true → t ≡ true → (p && (q && (r && t))) ≡ true
all_four p q r t a b c d = grind (arith, a, b, c, d)

below : (r c i j : ℕ) → r < i → place_before r c i j ≡ true
below r c i j h = grind (arith, nat_tests)

beside : (i c j : ℕ) → c < j → place_before i c i j ≡ true
beside i c j h = grind (arith, nat_tests)

within : (m n i j : ℕ) → 1 ≤ i → i ≤ m → 1 ≤ j → j ≤ n → is_within m n i j ≡ true
within m n i j a b c d = grind (arith, nat_tests)

-- the last row, after a cell of the same row
last_after : (k n c s m : ℕ) → c < s → s + m ≤ suc n → cells_after (suc k) n (suc k) c (last_row k s m) ≡ true
last_after k n c s zero h u = refl
last_after k n c s (suc m) h u =
    all_four (place_before (suc k) c (suc k) s) (is_within (suc k) n (suc k) s) (not (is_zero (neg_ℚ one_ℚ)))
    (cells_after (suc k) n (suc k) s (map (λ j. cell (suc k) j (neg_ℚ one_ℚ)) (numbers_from (suc s) m)))
    (beside (suc k) c s h) (within (suc k) n (suc k) s (omega arith) (omega arith) (omega arith) (omega arith)) minus_one_kept
    (last_after k n s (suc s) m (omega arith) (omega arith))

-- the whole last row, after one of an earlier row
last_whole : (k n r c s m : ℕ) → r < suc k → 1 ≤ s → s + m ≤ suc n → cells_after (suc k) n r c (last_row k s m) ≡ true
last_whole k n r c s zero h l u = refl
last_whole k n r c s (suc m) h l u =
    all_four (place_before r c (suc k) s) (is_within (suc k) n (suc k) s) (not (is_zero (neg_ℚ one_ℚ)))
    (cells_after (suc k) n (suc k) s (map (λ j. cell (suc k) j (neg_ℚ one_ℚ)) (numbers_from (suc s) m)))
    (below r c (suc k) s h) (within (suc k) n (suc k) s (omega arith) (omega arith) (omega arith) (omega arith)) minus_one_kept
    (last_after k n s (suc s) m (omega arith) (omega arith))

all_after : (k n r c s m : ℕ) → r < s → s + m ≡ suc k → k ≤ n → cells_after (suc k) n r c (diagonal s m ++ last_row k 1 k) ≡ true
all_after k n r c s zero h e u = last_whole k n r c 1 k (omega arith) (omega arith) (omega arith)
all_after k n r c s (suc m) h e u =
    all_four (place_before r c s s) (is_within (suc k) n s s) (not (is_zero one_ℚ))
    (cells_after (suc k) n s s (map (λ j. cell j j one_ℚ) (numbers_from (suc s) m) ++ last_row k 1 k))
    (below r c s s h) (within (suc k) n s s (omega arith) (omega arith) (omega arith) (omega arith)) one_kept
    (all_after k n s s (suc s) m (omega arith) (omega arith) u)

pub associated_are_cells : (k n : ℕ) → k ≤ n → are_cells (suc k) n (associated_cells k) ≡ true
associated_are_cells k n h = all_after k n 0 0 1 k (omega arith) (omega arith) h

-- ---- how they are made
one_more : (m : ℕ) → m + 1 ≡ suc m
one_more m = omega arith

pub next_unit : (cells more : List Cell) (q : ℚ) (m : ℕ) → q ≡ whole (pos 1) → cells ≡ diagonal 1 m → more ≡ cells ++ cell (m + 1) (m + 1) q ∷ [] → more ≡ diagonal 1 (m + 1)
next_unit cells more q m value before e =
    e
    ∙ ap₂ (λ u v. u ++ v ∷ []) before (ap₂ (λ (i : ℕ) p. cell i i p) (one_more m ∙ next m) value)
    ∙ sym (last_number (λ j. cell j j one_ℚ) 1 m) ∙ ap (λ (n : ℕ). diagonal 1 n) (sym (one_more m))
  where
    next : (n : ℕ) → suc n ≡ 1 + n
    next n = omega arith

pub next_minus : (k : ℕ) (cells more : List Cell) (q : ℚ) (m : ℕ) → q ≡ whole (negsuc 0) → cells ≡ diagonal 1 k ++ last_row k 1 m →
    more ≡ cells ++ cell (k + 1) (m + 1) q ∷ [] → more ≡ diagonal 1 k ++ last_row k 1 (m + 1)
next_minus k cells more q m value before e =
    e
    ∙ ap₂ (λ u v. u ++ v ∷ []) before
    (ap (λ (i : ℕ). cell i (m + 1) q) (one_more k) ∙ ap₂ (λ (i : ℕ) p. cell (suc k) i p) (one_more m ∙ next m) (value ∙ sym (whole-neg (pos 1))))
    ∙ append_assoc (diagonal 1 k) (last_row k 1 m) (cell (suc k) (1 + m) (neg_ℚ one_ℚ) ∷ [])
    ∙ ap (λ w. diagonal 1 k ++ w) (sym (last_number (λ j. cell (suc k) j (neg_ℚ one_ℚ)) 1 m) ∙ ap (λ (n : ℕ). last_row k 1 n) (sym (one_more m)))
  where
    next : (n : ℕ) → suc n ≡ 1 + n
    next n = omega arith

pub made_are_cells : (k n : ℕ) (cells : List Cell) → k ≤ n → cells ≡ associated_cells k → are_cells (k + 1) n cells ≡ true
made_are_cells k n cells h e =
    ap (λ (m : ℕ). are_cells m n cells) (one_more k) ∙ ap (λ w. are_cells (suc k) n w) e ∙ associated_are_cells k n h
