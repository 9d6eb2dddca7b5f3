-- The first entries of vectors, and those of sparse ones.
use Rattle.std.proofs.Common.{◌≡◌, ℕ, zero, suc, ◌+◌, ◌<◌, ◌≤◌, Bool, true, false, not, List, [], ◌∷◌, length, take, slice_index_or, refl, sym, ap, ap₂, ◌∙◌, arith, IsTrue}
use Rattle.exact_field.specs.Rational.{ℚ, zero_ℚ}
use Rattle.exact_field.specs.Order.{same_ℚ}
use Rattle.exact_field.proofs.Comparison.{same_ℚ-is}
use Rattle.polyhedra.specs.Sparse.{value_at, values_from}
use Rattle.polyhedra.specs.Vectors.{zeros}

-- entries that are the same at each of the first k places
same_from : (f : ℕ → ℚ) (v : List ℚ) (s k : ℕ) → k ≤ length v → ((i : ℕ) → i < k → slice_index_or v i zero_ℚ ≡ f (i + s)) → take k v ≡ values_from k s f
same_from f v s zero h e = refl
same_from f [] s (suc k) h e = absurd (omega arith)
same_from f (x ∷ v) s (suc k) h e =
    ap₂ (λ a b. a ∷ b) (e 0 (omega arith) ∙ ap f (first s)) (same_from f v (suc s) k (omega arith) (λ i l. e (suc i) (omega arith) ∙ ap f (next i s)))
  where
    first : (t : ℕ) → 0 + t ≡ t
    first t = omega arith

    next : (i t : ℕ) → suc i + t ≡ i + suc t
    next i t = omega arith

pub same_entries : (f : ℕ → ℚ) (v : List ℚ) (k : ℕ) → k ≤ length v → ((i : ℕ) → i < k → slice_index_or v i zero_ℚ ≡ f (i + 1)) → take k v ≡ values_from k 1 f
same_entries f v k h e = same_from f v 1 k h e

each_from : (f : ℕ → ℚ) (v : List ℚ) (s k : ℕ) → k ≤ length v → take k v ≡ values_from k s f → (i : ℕ) → i < k → slice_index_or v i zero_ℚ ≡ f (i + s)
each_from f v s zero h e i l = absurd (omega arith)
each_from f [] s (suc k) h e i l = absurd (omega arith)
each_from f (x ∷ v) s (suc k) h e zero l = ap (λ w. slice_index_or w 0 zero_ℚ) e ∙ ap f (first s)
  where
    first : (t : ℕ) → t ≡ 0 + t
    first t = omega arith
each_from f (x ∷ v) s (suc k) h e (suc i) l = each_from f v (suc s) k (omega arith) (ap rest e) i (omega arith) ∙ ap f (next i s)
  where
    next : (j t : ℕ) → j + suc t ≡ suc j + t
    next j t = omega arith

    rest : List ℚ → List ℚ
    rest [] = []
    rest (y ∷ w) = w

pub each_entry : (f : ℕ → ℚ) (v : List ℚ) (k : ℕ) → k ≤ length v → take k v ≡ values_from k 1 f → (i : ℕ) → i < k → slice_index_or v i zero_ℚ ≡ f (i + 1)
each_entry f v k h e i l = each_from f v 1 k h e i l

-- a sparse vector that names no place is 0
pub none_named : (s k : ℕ) → values_from k s (value_at []) ≡ zeros k
none_named s zero = refl
none_named s (suc k) = ap (λ w. zero_ℚ ∷ w) (none_named (suc s) k)

-- the first k of n values
pub take-values : (f : ℕ → ℚ) (s k n : ℕ) → k ≤ n → take k (values_from n s f) ≡ values_from k s f
take-values f s zero n h = refl
take-values f s (suc k) zero h = absurd (omega arith)
take-values f s (suc k) (suc n) h = ap (λ w. f s ∷ w) (take-values f (suc s) k n (omega arith))

-- ---- the test
pub not_true : false ≡ true → ⊥
not_true e = grind (arith, e)

-- a is the test of P, b that of Q, and s that of L, which is P without Q
pub level_if : {P Q L : Type 0} (a b s : Bool) → (IsTrue a → P) → (Q → IsTrue b) → (IsTrue b → Q) → (L → P × (Q → ⊥)) → (P × (Q → ⊥) → L) → (s ≡ true → L) → (L → s ≡ true) →
    a ≡ true → not b ≡ s
level_if {L = L} a true s p q q' out into t t' e = go s t
  where
    go : (r : Bool) → (r ≡ true → L) → false ≡ r
    go true h = absurd ((out (h refl)).1 (q' refl))
    go false h = refl
level_if a false s p q q' out into t t' e = sym (t' (into (p e, λ r. not_true (q r))))

pub level_unless : {P Q L : Type 0} (a s : Bool) → (P → IsTrue a) → (L → P × (Q → ⊥)) → (s ≡ true → L) → a ≡ false → a ≡ s
level_unless a true p out t e = absurd (not_true (sym e ∙ p (out (t refl)).0))
level_unless a false p out t e = e

-- ---- an entry by its index
same_default : (v : List ℚ) (i : ℕ) (a b : ℚ) → i < length v → slice_index_or v i a ≡ slice_index_or v i b
same_default [] i a b h = absurd (omega arith)
same_default (x ∷ v) zero a b h = refl
same_default (x ∷ v) (suc i) a b h = same_default v i a b (omega arith)

pub at_is : (v : List ℚ) (i : ℕ) (a b : ℚ) → i < length v → a ≡ slice_index_or v i a → slice_index_or v i b ≡ a
at_is v i a b h e = same_default v i b a h ∙ sym e

pub not_same : (a b : ℚ) (r : Bool) → r ≡ not (same_ℚ a b) → r ≡ true → a ≡ b → ⊥
not_same a b r e t s = not_true (ap not (sym ((same_ℚ-is a b).1 s)) ∙ sym e ∙ t)

pub is_same : (a b : ℚ) (r : Bool) → r ≡ not (same_ℚ a b) → r ≡ false → a ≡ b
is_same a b r e f = (same_ℚ-is a b).0 (go (same_ℚ a b) (sym e ∙ f))
  where
    go : (q : Bool) → not q ≡ false → q ≡ true
    go true h = refl
    go false h = absurd (not_true (sym h))
