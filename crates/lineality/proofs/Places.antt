-- Entries of vectors by their places counted from 0, and the place of the first entry that is not
-- 0.
use Rattle.std.proofs.Common.{◌≡◌, ℕ, zero, suc, List, [], ◌∷◌, map, Bool, true, false, cond, refl, sym, ap, ap₂, ◌∙◌, arith, ◌<◌, ◌-◌, slice_index_or}
use Rattle.exact_field.specs.Rational.{ℚ, zero_ℚ, ◌+ℚ◌, ◌*ℚ◌, neg_ℚ}
use Rattle.exact_field.specs.Vector.{dot, entry}
use Rattle.polyhedra.specs.Vectors.{zeros, plus, scaled, combination}
use Rattle.polyhedra.specs.DoubleDescription.{is_zero, leading}
use Rattle.polyhedra.specs.Negatives.{negated}
use Rattle.polyhedra.proofs.Laws.{add_zero}
use Rattle.polyhedra.proofs.Algebra.{zero_add, mul_zero, neg_zero}
use Rattle.polyhedra.proofs.Tests.{zero_of_test}
use Rattle.lineality.specs.Lines.{leading_place}

-- the entry after k others, and 0 past the end
abbrev pub at : List ℚ → ℕ → ℚ
at v k = slice_index_or v k zero_ℚ

pub at-plus : (u v : List ℚ) (k : ℕ) → at (plus u v) k ≡ at u k +ℚ at v k
at-plus [] v k = sym (zero_add (at v k))
at-plus (x ∷ u) [] k = sym (add_zero (at (x ∷ u) k))
at-plus (x ∷ u) (y ∷ v) zero = refl
at-plus (x ∷ u) (y ∷ v) (suc k) = at-plus u v k

pub at-scaled : (q : ℚ) (v : List ℚ) (k : ℕ) → at (scaled q v) k ≡ q *ℚ at v k
at-scaled q [] k = sym (mul_zero q)
at-scaled q (x ∷ v) zero = refl
at-scaled q (x ∷ v) (suc k) = at-scaled q v k

pub at-negated : (v : List ℚ) (k : ℕ) → at (negated v) k ≡ neg_ℚ (at v k)
at-negated [] k = sym neg_zero
at-negated (x ∷ v) zero = refl
at-negated (x ∷ v) (suc k) = at-negated v k

pub at-zeros : (n k : ℕ) → at (zeros n) k ≡ zero_ℚ
at-zeros zero k = refl
at-zeros (suc n) zero = refl
at-zeros (suc n) (suc k) = at-zeros n k

pub at-combination : (n : ℕ) (ms : List ℚ) (vs : List (List ℚ)) (k : ℕ) → at (combination n ms vs) k ≡ dot ms (map (λ v. at v k) vs)
at-combination n [] vs k = at-zeros n k
at-combination n (m ∷ ms) [] k = at-zeros n k
at-combination n (m ∷ ms) (v ∷ vs) k =
    at-plus (scaled m v) (combination n ms vs) k ∙ ap₂ (λ a b. a +ℚ b) (at-scaled m v k) (at-combination n ms vs k)

-- a product each of whose terms is 0
pub no_terms : (ms xs : List ℚ) → ((k : ℕ) → at ms k *ℚ at xs k ≡ zero_ℚ) → dot ms xs ≡ zero_ℚ
no_terms [] xs h = refl
no_terms (m ∷ ms) [] h = refl
no_terms (m ∷ ms) (x ∷ xs) h = ap₂ (λ a b. a +ℚ b) (h zero) (no_terms ms xs (λ k. h (suc k))) ∙ add_zero zero_ℚ

-- ---- the first entry that is not 0
pub first : List ℚ → ℕ
first [] = 0
first (x ∷ xs) = cond (is_zero x) (suc (first xs)) 0

pub place_is : (d : List ℚ) → leading_place d ≡ suc (first d)
unfolding first
place_is [] = refl
place_is (x ∷ xs) = go (place_is xs) (is_zero x)
  where
    go : leading_place xs ≡ suc (first xs) → (b : Bool) → cond b (suc (leading_place xs)) 1 ≡ suc (cond b (suc (first xs)) 0)
    go h true = ap suc h
    go h false = refl

less_one : (k : ℕ) → suc k - 1 ≡ k
less_one k = omega arith

pub entry_at : (v d : List ℚ) → entry v (leading_place d) ≡ at v (first d)
entry_at v d = ap (λ k. at v (k - 1)) (place_is d) ∙ ap (at v) (less_one (first d))

pub first_is : (d : List ℚ) → at d (first d) ≡ leading d
unfolding first
first_is [] = refl
first_is (x ∷ xs) = go (first_is xs) (is_zero x)
  where
    go : at xs (first xs) ≡ leading xs → (b : Bool) → at (x ∷ xs) (cond b (suc (first xs)) 0) ≡ cond b (leading xs) x
    go h true = h
    go h false = refl

pub before_first : (d : List ℚ) (k : ℕ) → k < first d → at d k ≡ zero_ℚ
unfolding first
before_first [] k h = refl
before_first (x ∷ xs) k h = go (before_first xs) (is_zero x) refl h
  where
    go : ((j : ℕ) → j < first xs → at xs j ≡ zero_ℚ) → (b : Bool) → is_zero x ≡ b → k < cond b (suc (first xs)) 0 → at (x ∷ xs) k ≡ zero_ℚ
    go later false e l = absurd (omega arith)
    go later true e l = by k l
      where
        by : (k : ℕ) → k < suc (first xs) → at (x ∷ xs) k ≡ zero_ℚ
        by zero l = zero_of_test x e
        by (suc k) l = later k (omega arith)
