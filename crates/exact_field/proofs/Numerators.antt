-- Numbers over one denominator: their sums, products and quotients by the numerators, and when they are small.
use mir.Syntax.{w128}
use mir.Val.{to_z, of_z}
use Rattle.std.specs.Prelude.{Bool, IsTrue, Option, Some, None, IfSome, MatchOption, ◌≡◌, ℕ, zero, suc, ℤ, pos, negsuc, neg_ℤ, ◌*◌, ◌/◌, ◌<◌, ◌≤◌, ◌^◌, ◌+ℤ◌, ◌*ℤ◌, ◌<ℤ◌, unsigned_abs, refl, [], ◌∷◌}
use Rattle.std.proofs.Common.{arith, sym, ap, ◌∙◌, subst, mul-pos}
use Rattle.std.proofs.Math.Nat.{div-le_self}
use Rattle.std.proofs.lemmas.Int.{ints, to_z-of_z, fits_signed_from_abs}
use Rattle.std.proofs.lemmas.Option.{IfSome_then}
use Rattle.exact_field.specs.Field.{AnswersFraction, IsSmall}
use Rattle.exact_field.specs.Gcd.{gcd}
use Rattle.exact_field.specs.Over.{IsBelowLimit, IsOver, IsQuotient}
use Rattle.exact_field.specs.Rational.{ℚ, zero_ℚ, whole, exact_quotient, fraction, ◌+ℚ◌, ◌*ℚ◌}
use Rattle.exact_field.specs.Ring.{num, ◌⊕◌, ◌⊗◌, v0, v1, v2, v3}
use Rattle.exact_field.proofs.RationalLaws.{Represents, represents_parts, represents_whole, represented_is, fraction_represents, same_represented, same_number_cross, mul_represents, whole-add, whole-mul}
use Rattle.exact_field.proofs.Rationals.{rationals, zero-mul_ℚ}
use Rattle.exact_field.proofs.RingTool.{ring, integers}

-- a positive whole number is its magnitude
pub positive_is : (z : ℤ) → pos 0 <ℤ z → (pos (unsigned_abs z) ≡ z) × (0 < unsigned_abs z)
positive_is (pos n) h = (refl, omega (arith, ints, h))
positive_is (negsuc n) h = absurd (omega (arith, ints, h))

-- ---- quotients

represented_quotient : (q : ℚ) (n : ℤ) (e : ℕ) → Represents q n e → IsQuotient (pos e) n q
represented_quotient q n e r =
    same_represented (q *ℚ whole (pos e)) (whole n) (n *ℤ pos e) n (e * 1) 1
    (mul_represents q (whole (pos e)) n (pos e) e 1 r (represents_whole (pos e)))
    (represents_whole n)
    (ring integers (n ∷ pos e ∷ []) ((v0 ⊗ v1) ⊗ num (pos 1)) (v0 ⊗ (v1 ⊗ num (pos 1))) refl)

-- the fraction n / d is the quotient of n by d
pub fraction_quotient : (q : ℚ) (n d : ℤ) → pos 0 <ℤ d → q ≡ fraction n (unsigned_abs d) → IsQuotient d n q
fraction_quotient q n d some is =
    let p = positive_is d some in
    subst (λ (z : ℤ). IsQuotient z n q) p.0
    (represented_quotient q n (unsigned_abs d) (subst (λ (x : ℚ). Represents x n (unsigned_abs d)) (sym is) (fraction_represents n (unsigned_abs d) p.1)))

quotient_represents : (q : ℚ) (n : ℤ) (e : ℕ) → 0 < e → IsQuotient (pos e) n q → Represents q n e
quotient_represents q n e some is =
    let product : Represents (whole n) (q.num *ℤ pos e) (q.den * 1) =
    subst (λ (x : ℚ). Represents x (q.num *ℤ pos e) (q.den * 1)) is
    (mul_represents q (whole (pos e)) q.num (pos e) q.den 1 (represents_parts q) (represents_whole (pos e))) in
    record {
      positive = some;
      cross =
          ring integers (q.num ∷ pos e ∷ []) (v0 ⊗ v1) ((v0 ⊗ v1) ⊗ num (pos 1)) refl
          ∙ same_number_cross (whole n) (q.num *ℤ pos e) n (q.den * 1) 1 product (represents_whole n)
          ∙ ring integers (n ∷ pos q.den ∷ []) (v0 ⊗ (v1 ⊗ num (pos 1))) (v0 ⊗ v1) refl;
    }

-- and the other way round
pub quotient_fraction : (q : ℚ) (n d : ℤ) → pos 0 <ℤ d → IsQuotient d n q → q ≡ fraction n (unsigned_abs d)
quotient_fraction q n d some is =
    let p = positive_is d some in
    represented_is q n (unsigned_abs d) (quotient_represents q n (unsigned_abs d) p.1 (subst (λ (z : ℤ). IsQuotient z n q) (sym p.0) is))

-- a quotient stays where both numbers are multiplied
pub quotient_multiplied : (q : ℚ) (n d by m e : ℤ) → IsQuotient d n q → n *ℤ by ≡ m → d *ℤ by ≡ e → IsQuotient e m q
quotient_multiplied q n d by m e is em ee =
    ap (λ (z : ℤ). q *ℚ whole z) (sym ee)
    ∙ ap (λ (x : ℚ). q *ℚ x) (sym (whole-mul d by))
    ∙ ring rationals (q ∷ whole d ∷ whole by ∷ []) (v0 ⊗ (v1 ⊗ v2)) ((v0 ⊗ v1) ⊗ v2) refl
    ∙ ap (λ (x : ℚ). x *ℚ whole by) is
    ∙ whole-mul n by
    ∙ ap whole em

-- ---- sizes

quotient_size : (n : ℤ) (g : ℕ) → unsigned_abs (exact_quotient n g) ≤ unsigned_abs n
quotient_size (pos n) g = div-le_self n g
quotient_size (negsuc n) g = subst (λ (k : ℕ). k ≤ suc n) (sym (size (suc n / g))) (div-le_self (suc n) g)
  where
    size : (k : ℕ) → unsigned_abs (neg_ℤ (pos k)) ≡ k
    size zero = refl
    size (suc k) = refl

-- reducing makes no part greater
fraction_small : (n : ℤ) (d : ℕ) → 0 < d → unsigned_abs n < 2 ^ 120 → d < 2 ^ 120 → IsSmall (fraction n d)
unfolding fraction
fraction_small n zero some hn hd = absurd (omega arith)
fraction_small n (suc d) some hn hd =
    let g : ℕ = gcd (unsigned_abs n) (suc d) in
    let less = quotient_size n g in
    let less_den = div-le_self (suc d) g in
    record { num_small = omega (arith, hn, less); den_small = omega (arith, hd, less_den) }

-- a quotient of numbers below the limit is small
pub quotient_small : (q : ℚ) (n d : ℤ) → pos 0 <ℤ d → IsQuotient d n q → IsBelowLimit n → IsBelowLimit d → IsSmall q
quotient_small q n d some is hn hd =
    subst IsSmall (sym (quotient_fraction q n d some is)) (fraction_small n (unsigned_abs d) (positive_is d some).1 hn hd)

-- ---- numerators

-- over a multiple of its denominator a number has the same multiple of its numerator
pub numerator_over : (x : ℚ) (n den by d : ℤ) → n ≡ x.num → d ≡ pos x.den → by *ℤ d ≡ den → whole (n *ℤ by) ≡ x *ℚ whole den
numerator_over x n den by d is_num is_den e =
    sym (quotient_multiplied x x.num (pos x.den) by (n *ℤ by) den (represented_quotient x x.num x.den (represents_parts x))
    (ap (λ (z : ℤ). z *ℤ by) (sym is_num))
    (ap (λ (z : ℤ). z *ℤ by) (sym is_den) ∙ ring integers (d ∷ by ∷ []) (v0 ⊗ v1) (v1 ⊗ v0) refl ∙ e))

-- a product of positive numbers
pub product_positive : (m d e : ℤ) → m ≡ d *ℤ e → pos 0 <ℤ d → pos 0 <ℤ e → pos 0 <ℤ m
product_positive m (pos d) (pos e) is hd he =
    let some : 0 < d * e = mul-pos (omega (arith, ints, hd)) (omega (arith, ints, he)) in
    subst (λ (z : ℤ). pos 0 <ℤ z) (sym is) (omega (arith, ints, some))
product_positive m (negsuc d) e is hd he = absurd (omega (arith, ints, hd))
product_positive m (pos d) (negsuc e) is hd he = absurd (omega (arith, ints, he))

pub den-positive : (x : ℚ) (d : ℤ) → d ≡ pos x.den → pos 0 <ℤ d
den-positive x d e = let h = x.positive in subst (λ (z : ℤ). pos 0 <ℤ z) (sym e) (omega (arith, ints, h))

some_of : {X : Type 0} (P : Type 0) (Q : X → Type 0) (o : Option X) → MatchOption o P Q → IfSome o Q
some_of P Q None h = tt
some_of P Q (Some x) h = h

-- what a call of a field answers for a fraction
pub answered_quotient : {F : Type 0} (value : F → ℚ) (holds : ℚ → Bool) (n d m e : ℤ) (o : Option F) → AnswersFraction value holds n d o →
    ((q : ℚ) → IsQuotient d n q → IsQuotient e m q) → IfSome o (λ q. IsQuotient e m (value q) × IsTrue (holds (value q)))
answered_quotient value holds n d m e o answer more =
    IfSome_then o (some_of _ _ o answer)
    (λ q h. (more (value q) (fraction_quotient (value q) n d h.0 h.1), subst (λ (x : ℚ). IsTrue (holds x)) (sym h.1) h.2))

-- ---- products and sums

-- numerators are multiplied over the product of the denominators
pub product_over : (x y : ℚ) (n m p d e b : ℤ) → IsOver d x n → IsOver e y m → p ≡ n *ℤ m → b ≡ d *ℤ e → IsQuotient b p (x *ℚ y)
product_over x y n m p d e b hx hy ep eb =
    ap (λ (z : ℤ). x *ℚ y *ℚ whole z) eb
    ∙ ap (λ (z : ℚ). x *ℚ y *ℚ z) (sym (whole-mul d e))
    ∙ ring rationals (x ∷ y ∷ whole d ∷ whole e ∷ []) (v0 ⊗ v1 ⊗ (v2 ⊗ v3)) ((v0 ⊗ v2) ⊗ (v1 ⊗ v3)) refl
    ∙ ap (λ (z : ℚ). z *ℚ (y *ℚ whole e)) (sym hx.0)
    ∙ ap (λ (z : ℚ). whole n *ℚ z) (sym hy.0)
    ∙ whole-mul n m
    ∙ ap whole (sym ep)

-- and added over one denominator
pub sum_over : (x y : ℚ) (n m s b : ℤ) → IsQuotient b n x → IsQuotient b m y → s ≡ n +ℤ m → IsQuotient b s (x +ℚ y)
sum_over x y n m s b hx hy es =
    ring rationals (x ∷ y ∷ whole b ∷ []) ((v0 ⊕ v1) ⊗ v2) (v0 ⊗ v2 ⊕ v1 ⊗ v2) refl
    ∙ ap (λ (z : ℚ). z +ℚ y *ℚ whole b) hx
    ∙ ap (λ (z : ℚ). whole n +ℚ z) hy
    ∙ whole-add n m
    ∙ ap whole (sym es)

pub quotient_zero : (b : ℤ) → IsQuotient b (pos 0) zero_ℚ
quotient_zero b = zero-mul_ℚ (whole b)

-- a number below the limit as it is stored
pub kept : (z : ℤ) → IsBelowLimit z → to_z w128 (of_z w128 z) ≡ z
kept z h = to_z-of_z w128 z (fits_signed_from_abs w128 z (omega (arith, h)))

-- a quotient is one number
pub same_quotient : (p q : ℚ) (d n : ℤ) → pos 0 <ℤ d → IsQuotient d n p → IsQuotient d n q → p ≡ q
same_quotient p q d n some hp hq = quotient_fraction p n d some hp ∙ sym (quotient_fraction q n d some hq)
