-- Tests and what they say: two tests joined, a test of every element, of a number that is 0, of vectors that are equal.
use Rattle.std.proofs.Common.{◌≡◌, List, [], ◌∷◌, All, map, refl, sym, ap₂, ◌⊎◌, inl, inr, Bool, true, false, true≢false, not, ◌&&◌, ◌||◌}
use Rattle.std.specs.List.{list_all}
use Rattle.std.proofs.lemmas.List.Elements.{All-nil, All-cons, All-head, All-tail}
use Rattle.exact_field.specs.Rational.{ℚ, zero_ℚ, le_ℚ}
use Rattle.polyhedra.specs.DoubleDescription.{is_zero, same_vector}
use Rattle.polyhedra.proofs.Laws.{le_refl, le_antisymm}
use Rattle.polyhedra.proofs.Order.{le_of_eq}

-- ---- tests that are joined
pub both_true : (a b : Bool) → (a && b) ≡ true → (a ≡ true) × (b ≡ true)
both_true true b h = (refl, h)
both_true false b h = absurd (true≢false (sym h))

pub both_hold : (a b : Bool) → a ≡ true → b ≡ true → (a && b) ≡ true
both_hold true b h k = k
both_hold false b h k = absurd (true≢false (sym h))

pub either_true : (a b : Bool) → (a || b) ≡ true → (a ≡ true) ⊎ (b ≡ true)
either_true true b h = inl refl
either_true false b h = inr h

pub or_left : (a b : Bool) → a ≡ true → (a || b) ≡ true
or_left true b h = refl
or_left false b h = absurd (true≢false (sym h))

pub or_right : (a b : Bool) → b ≡ true → (a || b) ≡ true
or_right true b h = refl
or_right false b h = h

pub not_true : (a : Bool) → not a ≡ true → a ≡ true → ⊥
not_true true h k = true≢false (sym h)
not_true false h k = true≢false (sym k)

pub true_or_not : (a : Bool) → (a ≡ true) ⊎ (not a ≡ true)
true_or_not true = inl refl
true_or_not false = inr refl

pub implied : (a b : Bool) → (not a || b) ≡ true → a ≡ true → b ≡ true
implied true b h k = h
implied false b h k = absurd (true≢false (sym k))

pub implies : (a b : Bool) → (a ≡ true → b ≡ true) → (not a || b) ≡ true
implies true b h = h refl
implies false b h = refl

pub refuted : (a : Bool) → (a ≡ true → ⊥) → not a ≡ true
refuted true h = absurd (h refl)
refuted false h = refl

pub same_tests : (a b : Bool) → (a ≡ true → b ≡ true) → (b ≡ true → a ≡ true) → a ≡ b
same_tests true b h k = sym (h refl)
same_tests false true h k = k refl
same_tests false false h k = refl

-- ---- of every element
pub list_all-true : {X : Type 0} (test : X → Bool) (xs : List X) → list_all test xs ≡ true → All (λ x. test x ≡ true) xs
list_all-true test [] h = All-nil (λ x. test x ≡ true)
list_all-true test (x ∷ xs) h = let b : (test x ≡ true) × (list_all test xs ≡ true) = both_true (test x) (list_all test xs) h in All-cons
    (λ y. test y ≡ true) x xs b.0 (list_all-true test xs b.1)

pub true-list_all : {X : Type 0} (test : X → Bool) (xs : List X) → All (λ x. test x ≡ true) xs → list_all test xs ≡ true
true-list_all test [] h = refl
true-list_all test (x ∷ xs) h = both_hold (test x) (list_all test xs) (All-head (λ y. test y ≡ true) x xs h)
    (true-list_all test xs (All-tail (λ y. test y ≡ true) x xs h))

pub list_all_same : {X Y : Type 0} (f : X → Y) (s : X → Bool) (t : Y → Bool) (xs : List X) → All (λ x. s x ≡ t (f x)) xs → list_all s xs ≡ list_all t (map f xs)
list_all_same f s t [] h = refl
list_all_same f s t (x ∷ xs) h = ap₂ (λ a b. a && b) (All-head (λ y. s y ≡ t (f y)) x xs h) (list_all_same f s t xs (All-tail (λ y. s y ≡ t (f y)) x xs h))

-- ---- of a number
pub zero_of_test : (q : ℚ) → is_zero q ≡ true → q ≡ zero_ℚ
zero_of_test q h = let b : (le_ℚ q zero_ℚ ≡ true) × (le_ℚ zero_ℚ q ≡ true) = both_true (le_ℚ q zero_ℚ) (le_ℚ zero_ℚ q) h in le_antisymm q zero_ℚ b.0 b.1

pub test_of_zero : (q : ℚ) → q ≡ zero_ℚ → is_zero q ≡ true
test_of_zero q e = both_hold (le_ℚ q zero_ℚ) (le_ℚ zero_ℚ q) (le_of_eq q zero_ℚ e) (le_of_eq zero_ℚ q (sym e))

pub test_of_other : (q : ℚ) → (q ≡ zero_ℚ → ⊥) → is_zero q ≡ false
test_of_other q h = go (is_zero q) refl
  where
    go : (b : Bool) → is_zero q ≡ b → is_zero q ≡ false
    go true e = absurd (h (zero_of_test q e))
    go false e = e

-- ---- of vectors
pub same_vector_is : (u v : List ℚ) → same_vector u v ≡ true → u ≡ v
same_vector_is [] [] h = refl
same_vector_is [] (y ∷ v) h = absurd (true≢false (sym h))
same_vector_is (x ∷ u) [] h = absurd (true≢false (sym h))
same_vector_is (x ∷ u) (y ∷ v) h =
    let b : ((le_ℚ x y && le_ℚ y x) ≡ true) × (same_vector u v ≡ true) = both_true (le_ℚ x y && le_ℚ y x) (same_vector u v) h in
    let c : (le_ℚ x y ≡ true) × (le_ℚ y x ≡ true) = both_true (le_ℚ x y) (le_ℚ y x) b.0 in
    ap₂ (λ p q. p ∷ q) (le_antisymm x y c.0 c.1) (same_vector_is u v b.1)

pub same_vector-self : (u : List ℚ) → same_vector u u ≡ true
same_vector-self [] = refl
same_vector-self (x ∷ u) = both_hold (le_ℚ x x && le_ℚ x x) (same_vector u u) (both_hold (le_ℚ x x) (le_ℚ x x) (le_refl x) (le_refl x)) (same_vector-self u)
