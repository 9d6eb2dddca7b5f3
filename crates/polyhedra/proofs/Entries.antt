-- Entries of multiples and negatives of vectors, and of what is left of a vector.
use Rattle.std.proofs.Common.{◌≡◌, ℕ, zero, suc, List, [], ◌∷◌, length, drop, refl, sym, ap₂, arith, ◌-◌, slice_index_or}
use Rattle.exact_field.specs.Rational.{ℚ, zero_ℚ, ◌*ℚ◌, neg_ℚ}
use Rattle.exact_field.specs.Vector.{dot, entry}
use Rattle.polyhedra.specs.Vectors.{zeros, scaled}
use Rattle.polyhedra.specs.Negatives.{negated}
use Rattle.polyhedra.proofs.Laws.{add_zero}
use Rattle.polyhedra.proofs.Algebra.{mul_zero, neg_zero, neg_mul}

pub slice-scaled : (q : ℚ) (v : List ℚ) (k : ℕ) → slice_index_or (scaled q v) k zero_ℚ ≡ q *ℚ slice_index_or v k zero_ℚ
slice-scaled q [] k = sym (mul_zero q)
slice-scaled q (x ∷ v) zero = refl
slice-scaled q (x ∷ v) (suc k) = slice-scaled q v k

pub scaled-zeros : (c : ℚ) (n : ℕ) → scaled c (zeros n) ≡ zeros n
scaled-zeros c zero = refl
scaled-zeros c (suc n) = ap₂ (λ a b. a ∷ b) (mul_zero c) (scaled-zeros c n)

pub negated-scaled : (q : ℚ) (v : List ℚ) → negated (scaled q v) ≡ scaled (neg_ℚ q) v
negated-scaled q [] = refl
negated-scaled q (x ∷ v) = ap₂ (λ (a : ℚ) (b : List ℚ). a ∷ b) (sym (neg_mul q x)) (negated-scaled q v)

pub at_drop : (s : ℚ) (k : ℕ) (y : List ℚ) → dot (s ∷ []) (drop k y) ≡ s *ℚ slice_index_or y k zero_ℚ
at_drop s zero [] = sym (mul_zero s)
at_drop s (suc k) [] = sym (mul_zero s)
at_drop s zero (x ∷ y) = add_zero (s *ℚ x)
at_drop s (suc k) (x ∷ y) = at_drop s k y

pub last_one : (k : ℕ) (y : List ℚ) → length y ≡ suc k → drop k y ≡ slice_index_or y k zero_ℚ ∷ []
last_one k [] l = absurd (omega arith)
last_one zero (x ∷ []) l = refl
last_one zero (x ∷ y ∷ z) l = absurd (omega arith)
last_one (suc k) (x ∷ y) l = last_one k y (omega arith)

pub slice-negated : (v : List ℚ) (k : ℕ) → slice_index_or (negated v) k zero_ℚ ≡ neg_ℚ (slice_index_or v k zero_ℚ)
slice-negated [] k = sym neg_zero
slice-negated (x ∷ v) zero = refl
slice-negated (x ∷ v) (suc k) = slice-negated v k

pub entry-negated : (v : List ℚ) (j : ℕ) → entry (negated v) j ≡ neg_ℚ (entry v j)
entry-negated v j = slice-negated v (j - 1)
