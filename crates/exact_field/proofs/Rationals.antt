-- The laws of the rational numbers: a commutative ring, and the inverse of each number that is not 0.
use Rattle.std.specs.Prelude.{◌≡◌, ◌≢◌, ◌⊎◌, ℕ, ℤ, pos, negsuc, neg_ℤ, ◌+ℤ◌, ◌*ℤ◌, ◌*◌, ◌<◌, zero, suc, refl, unsigned_abs, [], ◌∷◌}
use Rattle.std.proofs.Common.{sym, ap, ◌∙◌, inl, inr}
use Rattle.exact_field.specs.Rational.{ℚ, whole, zero_ℚ, one_ℚ, ◌+ℚ◌, ◌*ℚ◌, ◌-ℚ◌, ◌/ℚ◌, neg_ℚ, signed_den, inverse_ℚ, suc-positive}
use Rattle.exact_field.specs.Ring.{Ring, num, ◌⊕◌, ◌⊗◌, ⊖, ◌⊝◌, v0, v1, v2, v3, v4, v5}
use Rattle.exact_field.proofs.RationalLaws.{Represents, represents_parts, represents_whole, fraction_represents, same_represented, add_represents, mul_represents, neg_represents, whole-add, whole-mul, whole-num, whole_injective}
use Rattle.exact_field.proofs.RingTool.{ring, integers, mul_zero, zero_mul}

-- ---- a commutative ring

pub add_comm_ℚ : (p q : ℚ) → p +ℚ q ≡ q +ℚ p
add_comm_ℚ p q =
    same_represented (p +ℚ q) (q +ℚ p) (p.num *ℤ pos q.den +ℤ q.num *ℤ pos p.den) (q.num *ℤ pos p.den +ℤ p.num *ℤ pos q.den) (p.den * q.den) (q.den * p.den)
    (add_represents p q p.num q.num p.den q.den (represents_parts p) (represents_parts q))
    (add_represents q p q.num p.num q.den p.den (represents_parts q) (represents_parts p))
    (ring integers (p.num ∷ pos p.den ∷ q.num ∷ pos q.den ∷ []) ((v0 ⊗ v3 ⊕ v2 ⊗ v1) ⊗ (v3 ⊗ v1)) ((v2 ⊗ v1 ⊕ v0 ⊗ v3) ⊗ (v1 ⊗ v3)) refl)

pub add_assoc_ℚ : (p q r : ℚ) → p +ℚ q +ℚ r ≡ p +ℚ (q +ℚ r)
add_assoc_ℚ p q r =
    same_represented (p +ℚ q +ℚ r) (p +ℚ (q +ℚ r)) ((p.num *ℤ pos q.den +ℤ q.num *ℤ pos p.den) *ℤ pos r.den +ℤ r.num *ℤ (pos p.den *ℤ pos q.den)) (p.num *ℤ (pos q.den *ℤ pos r.den) +ℤ (q.num *ℤ pos r.den +ℤ r.num *ℤ pos q.den) *ℤ pos p.den) (p.den * q.den * r.den) (p.den * (q.den * r.den))
    (add_represents (p +ℚ q) r (p.num *ℤ pos q.den +ℤ q.num *ℤ pos p.den) r.num (p.den * q.den) r.den (add_represents p q p.num q.num p.den q.den (represents_parts p) (represents_parts q)) (represents_parts r))
    (add_represents p (q +ℚ r) p.num (q.num *ℤ pos r.den +ℤ r.num *ℤ pos q.den) p.den (q.den * r.den) (represents_parts p) (add_represents q r q.num r.num q.den r.den (represents_parts q) (represents_parts r)))
    (ring integers (p.num ∷ pos p.den ∷ q.num ∷ pos q.den ∷ r.num ∷ pos r.den ∷ []) (((v0 ⊗ v3 ⊕ v2 ⊗ v1) ⊗ v5 ⊕ v4 ⊗ (v1 ⊗ v3)) ⊗ (v1 ⊗ (v3 ⊗ v5))) ((v0 ⊗ (v3 ⊗ v5) ⊕ (v2 ⊗ v5 ⊕ v4 ⊗ v3) ⊗ v1) ⊗ ((v1 ⊗ v3) ⊗ v5)) refl)

pub add-zero_ℚ : (p : ℚ) → p +ℚ zero_ℚ ≡ p
add-zero_ℚ p =
    same_represented (p +ℚ zero_ℚ) p (p.num *ℤ pos 1 +ℤ pos 0 *ℤ pos p.den) p.num (p.den * 1) p.den
    (add_represents p zero_ℚ p.num (pos 0) p.den 1 (represents_parts p) (represents_whole (pos 0)))
    (represents_parts p)
    (ring integers (p.num ∷ pos p.den ∷ []) ((v0 ⊗ num (pos 1) ⊕ num (pos 0) ⊗ v1) ⊗ v1) (v0 ⊗ (v1 ⊗ num (pos 1))) refl)

pub add-neg_ℚ : (p : ℚ) → p +ℚ neg_ℚ p ≡ zero_ℚ
add-neg_ℚ p =
    same_represented (p +ℚ neg_ℚ p) zero_ℚ (p.num *ℤ pos p.den +ℤ neg_ℤ p.num *ℤ pos p.den) (pos 0) (p.den * p.den) 1
    (add_represents p (neg_ℚ p) p.num (neg_ℤ p.num) p.den p.den (represents_parts p) (neg_represents p p.num p.den (represents_parts p)))
    (represents_whole (pos 0))
    (ring integers (p.num ∷ pos p.den ∷ []) ((v0 ⊗ v1 ⊕ ⊖ v0 ⊗ v1) ⊗ num (pos 1)) (num (pos 0) ⊗ (v1 ⊗ v1)) refl)

pub mul_comm_ℚ : (p q : ℚ) → p *ℚ q ≡ q *ℚ p
mul_comm_ℚ p q =
    same_represented (p *ℚ q) (q *ℚ p) (p.num *ℤ q.num) (q.num *ℤ p.num) (p.den * q.den) (q.den * p.den)
    (mul_represents p q p.num q.num p.den q.den (represents_parts p) (represents_parts q))
    (mul_represents q p q.num p.num q.den p.den (represents_parts q) (represents_parts p))
    (ring integers (p.num ∷ pos p.den ∷ q.num ∷ pos q.den ∷ []) ((v0 ⊗ v2) ⊗ (v3 ⊗ v1)) ((v2 ⊗ v0) ⊗ (v1 ⊗ v3)) refl)

pub mul_assoc_ℚ : (p q r : ℚ) → p *ℚ q *ℚ r ≡ p *ℚ (q *ℚ r)
mul_assoc_ℚ p q r =
    same_represented (p *ℚ q *ℚ r) (p *ℚ (q *ℚ r)) (p.num *ℤ q.num *ℤ r.num) (p.num *ℤ (q.num *ℤ r.num)) (p.den * q.den * r.den) (p.den * (q.den * r.den))
    (mul_represents (p *ℚ q) r (p.num *ℤ q.num) r.num (p.den * q.den) r.den (mul_represents p q p.num q.num p.den q.den (represents_parts p) (represents_parts q)) (represents_parts r))
    (mul_represents p (q *ℚ r) p.num (q.num *ℤ r.num) p.den (q.den * r.den) (represents_parts p) (mul_represents q r q.num r.num q.den r.den (represents_parts q) (represents_parts r)))
    (ring integers (p.num ∷ pos p.den ∷ q.num ∷ pos q.den ∷ r.num ∷ pos r.den ∷ []) ((v0 ⊗ v2 ⊗ v4) ⊗ (v1 ⊗ (v3 ⊗ v5))) ((v0 ⊗ (v2 ⊗ v4)) ⊗ ((v1 ⊗ v3) ⊗ v5)) refl)

pub mul-one_ℚ : (p : ℚ) → p *ℚ one_ℚ ≡ p
mul-one_ℚ p =
    same_represented (p *ℚ one_ℚ) p (p.num *ℤ pos 1) p.num (p.den * 1) p.den
    (mul_represents p one_ℚ p.num (pos 1) p.den 1 (represents_parts p) (represents_whole (pos 1)))
    (represents_parts p)
    (ring integers (p.num ∷ pos p.den ∷ []) ((v0 ⊗ num (pos 1)) ⊗ v1) (v0 ⊗ (v1 ⊗ num (pos 1))) refl)

pub mul-add_ℚ : (p q r : ℚ) → p *ℚ (q +ℚ r) ≡ p *ℚ q +ℚ p *ℚ r
mul-add_ℚ p q r =
    same_represented (p *ℚ (q +ℚ r)) (p *ℚ q +ℚ p *ℚ r) (p.num *ℤ (q.num *ℤ pos r.den +ℤ r.num *ℤ pos q.den)) ((p.num *ℤ q.num) *ℤ (pos p.den *ℤ pos r.den) +ℤ (p.num *ℤ r.num) *ℤ (pos p.den *ℤ pos q.den)) (p.den * (q.den * r.den)) (p.den * q.den * (p.den * r.den))
    (mul_represents p (q +ℚ r) p.num (q.num *ℤ pos r.den +ℤ r.num *ℤ pos q.den) p.den (q.den * r.den) (represents_parts p) (add_represents q r q.num r.num q.den r.den (represents_parts q) (represents_parts r)))
    (add_represents (p *ℚ q) (p *ℚ r) (p.num *ℤ q.num) (p.num *ℤ r.num) (p.den * q.den) (p.den * r.den) (mul_represents p q p.num q.num p.den q.den (represents_parts p) (represents_parts q)) (mul_represents p r p.num r.num p.den r.den (represents_parts p) (represents_parts r)))
    (ring integers (p.num ∷ pos p.den ∷ q.num ∷ pos q.den ∷ r.num ∷ pos r.den ∷ []) ((v0 ⊗ (v2 ⊗ v5 ⊕ v4 ⊗ v3)) ⊗ ((v1 ⊗ v3) ⊗ (v1 ⊗ v5))) (((v0 ⊗ v2) ⊗ (v1 ⊗ v5) ⊕ (v0 ⊗ v4) ⊗ (v1 ⊗ v3)) ⊗ (v1 ⊗ (v3 ⊗ v5))) refl)

-- the ring of the rational numbers
abbrev pub rationals : Ring ℚ
rationals =
    record {
      from = whole;
      add = ◌+ℚ◌;
      mul = ◌*ℚ◌;
      neg = neg_ℚ;
      from-add = λ m n. sym (whole-add m n);
      from-mul = λ m n. sym (whole-mul m n);
      add_comm = add_comm_ℚ;
      add_assoc = add_assoc_ℚ;
      add_zero = add-zero_ℚ;
      add_neg = add-neg_ℚ;
      mul_comm = mul_comm_ℚ;
      mul_assoc = mul_assoc_ℚ;
      mul_one = mul-one_ℚ;
      mul_add = mul-add_ℚ;
    }

-- ---- 0 and 1

pub zero-add_ℚ : (p : ℚ) → zero_ℚ +ℚ p ≡ p
zero-add_ℚ p = add_comm_ℚ zero_ℚ p ∙ add-zero_ℚ p

pub one-mul_ℚ : (p : ℚ) → one_ℚ *ℚ p ≡ p
one-mul_ℚ p = mul_comm_ℚ one_ℚ p ∙ mul-one_ℚ p

pub mul-zero_ℚ : (p : ℚ) → p *ℚ zero_ℚ ≡ zero_ℚ
mul-zero_ℚ p = mul_zero rationals p

pub zero-mul_ℚ : (p : ℚ) → zero_ℚ *ℚ p ≡ zero_ℚ
zero-mul_ℚ p = zero_mul rationals p

pub neg-zero_ℚ : neg_ℚ zero_ℚ ≡ zero_ℚ
neg-zero_ℚ = ring rationals [] (⊖ (num (pos 0))) (num (pos 0)) refl

pub neg-neg_ℚ : (p : ℚ) → neg_ℚ (neg_ℚ p) ≡ p
neg-neg_ℚ p = ring rationals (p ∷ []) (⊖ (⊖ v0)) v0 refl

pub neg-mul_ℚ : (p q : ℚ) → neg_ℚ p *ℚ q ≡ neg_ℚ (p *ℚ q)
neg-mul_ℚ p q = ring rationals (p ∷ q ∷ []) (⊖ v0 ⊗ v1) (⊖ (v0 ⊗ v1)) refl

pub mul-neg_ℚ : (p q : ℚ) → p *ℚ neg_ℚ q ≡ neg_ℚ (p *ℚ q)
mul-neg_ℚ p q = ring rationals (p ∷ q ∷ []) (v0 ⊗ ⊖ v1) (⊖ (v0 ⊗ v1)) refl

pub neg-add_ℚ : (p q : ℚ) → neg_ℚ (p +ℚ q) ≡ neg_ℚ p +ℚ neg_ℚ q
neg-add_ℚ p q = ring rationals (p ∷ q ∷ []) (⊖ (v0 ⊕ v1)) (⊖ v0 ⊕ ⊖ v1) refl

pub add-mul_ℚ : (p q r : ℚ) → (p +ℚ q) *ℚ r ≡ p *ℚ r +ℚ q *ℚ r
add-mul_ℚ p q r = ring rationals (p ∷ q ∷ r ∷ []) ((v0 ⊕ v1) ⊗ v2) (v0 ⊗ v2 ⊕ v1 ⊗ v2) refl

-- numbers whose difference is 0 are one
pub same_from_difference : (p q : ℚ) → p -ℚ q ≡ zero_ℚ → p ≡ q
same_from_difference p q h =
    ring rationals (p ∷ q ∷ []) v0 ((v0 ⊝ v1) ⊕ v1) refl ∙ ap (λ (x : ℚ). x +ℚ q) h ∙ zero-add_ℚ q

pub difference_self : (p : ℚ) → p -ℚ p ≡ zero_ℚ
difference_self p = add-neg_ℚ p

pub add_left_cancel_ℚ : (p q r : ℚ) → p +ℚ q ≡ p +ℚ r → q ≡ r
add_left_cancel_ℚ p q r h =
    ring rationals (p ∷ q ∷ []) v1 (⊖ v0 ⊕ (v0 ⊕ v1)) refl ∙ ap (λ (x : ℚ). neg_ℚ p +ℚ x) h ∙ ring rationals (p ∷ r ∷ []) (⊖ v0 ⊕ (v0 ⊕ v1)) v1 refl

-- ---- the parts

pub zero-num : zero_ℚ.num ≡ pos 0
zero-num = whole-num (pos 0)

-- a number is 0 exactly where its numerator is
pub zero_from_num : (q : ℚ) → q.num ≡ pos 0 → q ≡ zero_ℚ
zero_from_num q h =
    same_represented q zero_ℚ q.num (pos 0) q.den 1 (represents_parts q) (represents_whole (pos 0))
    (ap (λ (n : ℤ). n *ℤ pos 1) h ∙ ring integers (pos q.den ∷ []) (num (pos 0)) (num (pos 0) ⊗ v0) refl)

pub neg-num : (q : ℚ) → (neg_ℚ q).num ≡ neg_ℤ q.num
unfolding neg_ℚ
neg-num q = refl

pub neg-den : (q : ℚ) → (neg_ℚ q).den ≡ q.den
unfolding neg_ℚ
neg-den q = refl

zero_or_not_by : (q : ℚ) (n : ℤ) → q.num ≡ n → (q ≡ zero_ℚ) ⊎ (q ≢ zero_ℚ)
zero_or_not_by q (pos zero) e = inl (zero_from_num q e)
zero_or_not_by q (pos (suc n)) e = inr (λ h. let k : pos 0 ≡ pos (suc n) = sym zero-num ∙ ap (λ (x : ℚ). x.num) (sym h) ∙ e in cc)
zero_or_not_by q (negsuc n) e = inr (λ h. let k : pos 0 ≡ negsuc n = sym zero-num ∙ ap (λ (x : ℚ). x.num) (sym h) ∙ e in cc)

-- a number is 0 or not
pub zero_or_not : (q : ℚ) → (q ≡ zero_ℚ) ⊎ (q ≢ zero_ℚ)
zero_or_not q = zero_or_not_by q q.num refl

same_or_not_by : (p q : ℚ) → ((p -ℚ q) ≡ zero_ℚ) ⊎ ((p -ℚ q) ≢ zero_ℚ) → (p ≡ q) ⊎ (p ≢ q)
same_or_not_by p q (inl h) = inl (same_from_difference p q h)
same_or_not_by p q (inr h) = inr (λ e. h (ap (λ (x : ℚ). x -ℚ q) e ∙ difference_self q))

-- two numbers are one or not
pub same_or_not : (p q : ℚ) → (p ≡ q) ⊎ (p ≢ q)
same_or_not p q = same_or_not_by p q (zero_or_not (p -ℚ q))

-- ---- inverses

magnitude-positive : (n : ℤ) → n ≢ pos 0 → 0 < unsigned_abs n
magnitude-positive (pos zero) h = absurd (h refl)
magnitude-positive (pos (suc n)) h = suc-positive n
magnitude-positive (negsuc n) h = suc-positive n

-- the numerator of a number that is not 0 has a positive magnitude
pub num-positive : (q : ℚ) → q ≢ zero_ℚ → 0 < unsigned_abs q.num
num-positive q h = magnitude-positive q.num (λ e. h (zero_from_num q e))

pub inverse_represents : (q : ℚ) → q ≢ zero_ℚ → Represents (inverse_ℚ q) (signed_den q.num q.den) (unsigned_abs q.num)
unfolding inverse_ℚ
inverse_represents q h = fraction_represents (signed_den q.num q.den) (unsigned_abs q.num) (num-positive q h)

signed_cross : (n : ℤ) (d : ℕ) → n *ℤ signed_den n d ≡ pos d *ℤ pos (unsigned_abs n)
signed_cross (pos n) d = ring integers (pos n ∷ pos d ∷ []) (v0 ⊗ v1) (v1 ⊗ v0) refl
signed_cross (negsuc n) d = ring integers (pos (suc n) ∷ pos d ∷ []) (⊖ v0 ⊗ ⊖ v1) (v1 ⊗ v0) refl

pub mul-inverse_ℚ : (q : ℚ) → q ≢ zero_ℚ → q *ℚ inverse_ℚ q ≡ one_ℚ
mul-inverse_ℚ q h =
    same_represented (q *ℚ inverse_ℚ q) one_ℚ (q.num *ℤ signed_den q.num q.den) (pos 1) (q.den * unsigned_abs q.num) 1
    (mul_represents q (inverse_ℚ q) q.num (signed_den q.num q.den) q.den (unsigned_abs q.num) (represents_parts q) (inverse_represents q h))
    (represents_whole (pos 1))
    (ap (λ (x : ℤ). x *ℤ pos 1) (signed_cross q.num q.den)
    ∙ ring integers (pos q.den ∷ pos (unsigned_abs q.num) ∷ []) ((v0 ⊗ v1) ⊗ num (pos 1)) (num (pos 1) ⊗ (v0 ⊗ v1)) refl)

-- the quotient times the divisor
pub div-mul_ℚ : (p q : ℚ) → q ≢ zero_ℚ → p /ℚ q *ℚ q ≡ p
div-mul_ℚ p q h =
    ring rationals (p ∷ q ∷ inverse_ℚ q ∷ []) (v0 ⊗ v2 ⊗ v1) (v0 ⊗ (v1 ⊗ v2)) refl ∙ ap (λ (x : ℚ). p *ℚ x) (mul-inverse_ℚ q h) ∙ mul-one_ℚ p

pub mul-div_ℚ : (p q : ℚ) → q ≢ zero_ℚ → p *ℚ q /ℚ q ≡ p
mul-div_ℚ p q h =
    ring rationals (p ∷ q ∷ inverse_ℚ q ∷ []) (v0 ⊗ v1 ⊗ v2) (v0 ⊗ (v1 ⊗ v2)) refl ∙ ap (λ (x : ℚ). p *ℚ x) (mul-inverse_ℚ q h) ∙ mul-one_ℚ p

-- a factor that is not 0 can be taken off both sides
pub mul_cancel_ℚ : (p q r : ℚ) → r ≢ zero_ℚ → p *ℚ r ≡ q *ℚ r → p ≡ q
mul_cancel_ℚ p q r h e = sym (mul-div_ℚ p r h) ∙ ap (λ (x : ℚ). x /ℚ r) e ∙ mul-div_ℚ q r h

-- a quotient is the one number whose product with the divisor is the dividend
pub quotient_unique : (p q r : ℚ) → q ≢ zero_ℚ → r *ℚ q ≡ p → r ≡ p /ℚ q
quotient_unique p q r h e = sym (mul-div_ℚ r q h) ∙ ap (λ (x : ℚ). x /ℚ q) e

-- a product is 0 only where a factor is
pub factor_zero : (p q : ℚ) → p *ℚ q ≡ zero_ℚ → q ≢ zero_ℚ → p ≡ zero_ℚ
factor_zero p q e h = mul_cancel_ℚ p zero_ℚ q h (e ∙ sym (zero-mul_ℚ q))

pub one-not-zero : one_ℚ ≢ zero_ℚ
one-not-zero h = let k : pos 1 ≡ pos 0 = whole_injective (pos 1) (pos 0) h in cc

pub inverse-not-zero : (q : ℚ) → q ≢ zero_ℚ → inverse_ℚ q ≢ zero_ℚ
inverse-not-zero q h e = one-not-zero (sym (mul-inverse_ℚ q h) ∙ ap (λ (x : ℚ). q *ℚ x) e ∙ mul-zero_ℚ q)

-- what is divided by 1, and 0 divided by a number
pub inverse-one : inverse_ℚ one_ℚ ≡ one_ℚ
inverse-one = sym (one-mul_ℚ (inverse_ℚ one_ℚ)) ∙ mul-inverse_ℚ one_ℚ one-not-zero

pub inverse-inverse : (q : ℚ) → q ≢ zero_ℚ → inverse_ℚ (inverse_ℚ q) ≡ q
inverse-inverse q h =
    mul_cancel_ℚ (inverse_ℚ (inverse_ℚ q)) q (inverse_ℚ q) (inverse-not-zero q h)
    (mul_comm_ℚ (inverse_ℚ (inverse_ℚ q)) (inverse_ℚ q) ∙ mul-inverse_ℚ (inverse_ℚ q) (inverse-not-zero q h) ∙ sym (mul-inverse_ℚ q h))
