-- A vector that is not 0 is normed by a positive factor.
use Rattle.std.proofs.Common.{◌≡◌, List, [], ◌∷◌, length, refl, sym, ap, ap₂, ◌∙◌, ◌⊎◌, inl, inr, Bool, true, false, true≢false, cond, ◌-◌}
use Rattle.exact_field.specs.Rational.{ℚ, zero_ℚ, ◌+ℚ◌, ◌*ℚ◌, neg_ℚ, inverse_ℚ, le_ℚ, ◌≤ℚ◌, ◌<ℚ◌, one_ℚ}
use Rattle.exact_field.specs.Vector.{dot, entry}
use Rattle.polyhedra.specs.DoubleDescription.{is_zero, magnitude, leading, norming, normed, IsNormed}
use Rattle.polyhedra.specs.Vectors.{scaled}
use Rattle.polyhedra.proofs.Laws.{add_zero, le_of_lt, mul_nonneg, mul_comm, mul_inverse, mul_one}
use Rattle.polyhedra.proofs.Algebra.{mul_zero, mul_neg}
use Rattle.polyhedra.proofs.Order.{zero_or_positive, neg_positive, inverse_positive, le_or_lt, not_lt_of_le, product_zero, mul_negative}
use Rattle.polyhedra.proofs.Linear.{dot-nil, length-scaled, scaled-one}
use Rattle.polyhedra.proofs.Tests.{test_of_other, test_of_zero, zero_of_test}
use Rattle.polyhedra.proofs.Entries.{slice-scaled}

-- the magnitude of a number that is not 0 is positive
pub magnitude-positive : (q : ℚ) → (q ≡ zero_ℚ → ⊥) → zero_ℚ <ℚ magnitude q
magnitude-positive q h = go (le_ℚ zero_ℚ q) refl
  where
    other : (zero_ℚ ≤ℚ q) ⊎ (q <ℚ zero_ℚ) → le_ℚ zero_ℚ q ≡ false → q <ℚ zero_ℚ
    other (inl k) e = absurd (true≢false (sym k ∙ e))
    other (inr k) e = k

    more : (q ≡ zero_ℚ) ⊎ (zero_ℚ <ℚ q) → zero_ℚ <ℚ q
    more (inl e) = absurd (h e)
    more (inr p) = p

    go : (b : Bool) → le_ℚ zero_ℚ q ≡ b → zero_ℚ <ℚ cond b q (neg_ℚ q)
    go true e = more (zero_or_positive q e)
    go false e = neg_positive q (other (le_or_lt zero_ℚ q) e)

-- where no entry leads, each product is 0
leading-zero : (v r : List ℚ) → leading v ≡ zero_ℚ → dot r v ≡ zero_ℚ
leading-zero [] r h = dot-nil r
leading-zero (x ∷ v) [] h = refl
leading-zero (x ∷ v) (r ∷ rs) h = go (is_zero x) refl h (leading-zero v rs)
  where
    go : (b : Bool) → is_zero x ≡ b → cond b (leading v) x ≡ zero_ℚ → (leading v ≡ zero_ℚ → dot rs v ≡ zero_ℚ) → r *ℚ x +ℚ dot rs v ≡ zero_ℚ
    go true e k again = ap₂ (λ a b. a +ℚ b) (ap (λ a. r *ℚ a) (zero_of_test x e) ∙ mul_zero r) (again k) ∙ add_zero zero_ℚ
    go false e k again = absurd (true≢false (sym (test_of_zero x k) ∙ e))

pub norming-other : (v r : List ℚ) → (dot r v ≡ zero_ℚ → ⊥) → norming v ≡ zero_ℚ → ⊥
norming-other v r h = go (is_zero (entry v (length v))) refl
  where
    go : (b : Bool) → is_zero (entry v (length v)) ≡ b → cond b (leading v) (entry v (length v)) ≡ zero_ℚ → ⊥
    go true e k = h (leading-zero v r k)
    go false e k = true≢false (sym (test_of_zero (entry v (length v)) k) ∙ e)

-- the factor that norms a vector
abbrev pub norm_factor : List ℚ → ℚ
norm_factor v = inverse_ℚ (magnitude (norming v))

pub norm_factor-positive : (v r : List ℚ) → (dot r v ≡ zero_ℚ → ⊥) → zero_ℚ <ℚ norm_factor v
norm_factor-positive v r h = inverse_positive (magnitude (norming v)) (magnitude-positive (norming v) (norming-other v r h))

-- ---- the norm of a multiple
pub is_zero-scaled : (q x : ℚ) → zero_ℚ <ℚ q → is_zero (q *ℚ x) ≡ is_zero x
is_zero-scaled q x p = go (is_zero x) refl
  where
    go : (b : Bool) → is_zero x ≡ b → is_zero (q *ℚ x) ≡ is_zero x
    go true e = test_of_zero (q *ℚ x) (ap (λ a. q *ℚ a) (zero_of_test x e) ∙ mul_zero q) ∙ sym e
    go false e = test_of_other (q *ℚ x) (λ f. true≢false (sym (test_of_zero x (product_zero q x p f)) ∙ e)) ∙ sym e

pub leading-scaled : (q : ℚ) (v : List ℚ) → zero_ℚ <ℚ q → leading (scaled q v) ≡ q *ℚ leading v
leading-scaled q [] p = sym (mul_zero q)
leading-scaled q (x ∷ v) p = ap (λ b. cond b (leading (scaled q v)) (q *ℚ x)) (is_zero-scaled q x p) ∙ go (is_zero x) (leading-scaled q v p)
  where
    go : (b : Bool) → leading (scaled q v) ≡ q *ℚ leading v → cond b (leading (scaled q v)) (q *ℚ x) ≡ q *ℚ cond b (leading v) x
    go true e = e
    go false e = refl

pub magnitude-scaled : (q x : ℚ) → zero_ℚ <ℚ q → magnitude (q *ℚ x) ≡ q *ℚ magnitude x
magnitude-scaled q x p = go (le_or_lt zero_ℚ x)
  where
    of_nonneg : (a : ℚ) → zero_ℚ ≤ℚ a → magnitude a ≡ a
    of_nonneg a h = ap (λ b. cond b a (neg_ℚ a)) h

    not_nonneg : (a : ℚ) → a <ℚ zero_ℚ → le_ℚ zero_ℚ a ≡ false
    not_nonneg a h = by (le_ℚ zero_ℚ a) refl
      where
        by : (b : Bool) → le_ℚ zero_ℚ a ≡ b → le_ℚ zero_ℚ a ≡ false
        by true e = absurd (not_lt_of_le zero_ℚ a e h)
        by false e = e

    of_negative : (a : ℚ) → a <ℚ zero_ℚ → magnitude a ≡ neg_ℚ a
    of_negative a h = ap (λ b. cond b a (neg_ℚ a)) (not_nonneg a h)

    go : (zero_ℚ ≤ℚ x) ⊎ (x <ℚ zero_ℚ) → magnitude (q *ℚ x) ≡ q *ℚ magnitude x
    go (inl h) = of_nonneg (q *ℚ x) (mul_nonneg q x (le_of_lt zero_ℚ q p) h) ∙ ap (λ a. q *ℚ a) (sym (of_nonneg x h))
    go (inr h) = of_negative (q *ℚ x) (mul_negative q x p h) ∙ sym (mul_neg q x) ∙ ap (λ a. q *ℚ a) (sym (of_negative x h))

-- ---- a normed vector is normed
pub norming-scaled : (q : ℚ) (v : List ℚ) → zero_ℚ <ℚ q → norming (scaled q v) ≡ q *ℚ norming v
norming-scaled q v p =
    ap (λ a. cond (is_zero a) (leading (scaled q v)) a) (ap (λ n. entry (scaled q v) n) (length-scaled q v) ∙ slice-scaled q v (length v - 1))
    ∙ ap (λ b. cond b (leading (scaled q v)) (q *ℚ entry v (length v))) (is_zero-scaled q (entry v (length v)) p)
    ∙ go (is_zero (entry v (length v)))
  where
    go : (b : Bool) → cond b (leading (scaled q v)) (q *ℚ entry v (length v)) ≡ q *ℚ cond b (leading v) (entry v (length v))
    go true = leading-scaled q v p
    go false = refl

pub normed_is_normed : (v r : List ℚ) → (dot r v ≡ zero_ℚ → ⊥) → IsNormed (normed v)
normed_is_normed v r h =
    ap magnitude (norming-scaled (norm_factor v) v (norm_factor-positive v r h))
    ∙ magnitude-scaled (norm_factor v) (norming v) (norm_factor-positive v r h)
    ∙ mul_comm (norm_factor v) (magnitude (norming v))
    ∙ mul_inverse (magnitude (norming v)) (magnitude-positive (norming v) (norming-other v r h))

-- ---- of the positive multiples of a vector one is normed
factor_one : (q x : ℚ) → zero_ℚ <ℚ q → magnitude x ≡ one_ℚ → magnitude (q *ℚ x) ≡ one_ℚ → q ≡ one_ℚ
factor_one q x p h k = sym (mul_one q) ∙ ap (λ a. q *ℚ a) (sym h) ∙ sym (magnitude-scaled q x p) ∙ k

pub normed_same : (q : ℚ) (d h : List ℚ) → zero_ℚ <ℚ q → h ≡ scaled q d → IsNormed d → IsNormed h → h ≡ d
normed_same q d h p e d_normed h_normed =
    e ∙ ap (λ a. scaled a d) (factor_one q (norming d) p d_normed (ap magnitude (sym (norming-scaled q d p)) ∙ ap (λ v. magnitude (norming v)) (sym e) ∙ h_normed))
    ∙ scaled-one d
