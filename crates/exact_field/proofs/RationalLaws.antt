-- What the numerator and the denominator of a rational number are, and when two fractions are one number.
use Rattle.std.specs.Prelude.{◌≡◌, ℕ, ℤ, pos, negsuc, neg_ℤ, ◌+ℤ◌, ◌*ℤ◌, ◌*◌, ◌/◌, ◌<◌, ◌↔◌, zero, suc, refl, int_le, int_lt, unsigned_abs, not, [], ◌∷◌}
use Rattle.std.specs.Int.{IsGcd, ◌∣◌}
use Rattle.std.proofs.Common.{arith, sym, ap, ◌∙◌, subst, mul-pos}
use Rattle.std.proofs.Math.Nat.{dvd-mul_left, dvd-mul_right, dvd_trans, dvd_antisymm, dvd-zero, dvd_of_mul-dvd-mul_left, mul-dvd-mul_left, mul-div_cancel', mul-one, mul_comm}
use Rattle.std.proofs.lemmas.Int.{unsigned_abs-mul}
use Rattle.exact_field.specs.Gcd.{gcd, gcd_is}
use Rattle.exact_field.specs.Rational.{ℚ, same_parts, whole, exact_quotient, fraction, ◌+ℚ◌, ◌*ℚ◌, ◌-ℚ◌, neg_ℚ, le_ℚ, lt_ℚ, suc-positive}
use Rattle.exact_field.proofs.Integers.{mul-one_ℤ, neg-mul_ℤ, mul-positive_cancel, not-le_ℤ, le-mul_positive}
use Rattle.exact_field.specs.Ring.{var, ◌⊕◌, ◌⊗◌, v0, v1, v2, v3, v4, v5}
use Rattle.exact_field.proofs.RingTool.{ring, integers}

-- ---- common divisors

-- what divides a product and has no common divisor with one factor divides the other (Gauss's lemma)
pub divides_other_factor : (a b c : ℕ) → IsGcd a b 1 → b ∣ c * a → b ∣ c
divides_other_factor a b zero coprime h = dvd-zero b
divides_other_factor a b (suc k) coprime h =
    let c : ℕ = suc k in
    let g : ℕ = gcd (c * a) (c * b) in
    let is = gcd_is (c * a) (c * b) in
    let c_divides : c ∣ g = is.2 c (dvd-mul_right c a) (dvd-mul_right c b) in
    let whole_g : c * (g / c) ≡ g = mul-div_cancel' c c_divides in
    let of_a : g / c ∣ a = dvd_of_mul-dvd-mul_left (g / c) (suc-positive k) (subst (λ (n : ℕ). n ∣ c * a) (sym whole_g) is.0) in
    let of_b : g / c ∣ b = dvd_of_mul-dvd-mul_left (g / c) (suc-positive k) (subst (λ (n : ℕ). n ∣ c * b) (sym whole_g) is.1) in
    let of_one : c * (g / c) ∣ c * 1 = mul-dvd-mul_left (g / c) c (coprime.2 (g / c) of_a of_b) in
    let below : g ∣ c = subst (λ (n : ℕ). n ∣ c) whole_g (subst (λ (n : ℕ). c * (g / c) ∣ n) (mul-one c) of_one) in
    dvd_trans b (is.2 b h (dvd-mul_left b c)) below

-- the denominator of a number in lowest terms divides that of each pair with the same cross products
den_divides : (n m : ℤ) (d e : ℕ) → IsGcd (unsigned_abs n) d 1 → n *ℤ pos e ≡ m *ℤ pos d → d ∣ e
den_divides n m d e lowest cross =
    let sizes : unsigned_abs n * e ≡ unsigned_abs m * d = sym (unsigned_abs-mul n (pos e)) ∙ ap unsigned_abs cross ∙ unsigned_abs-mul m (pos d) in
    divides_other_factor (unsigned_abs n) d e lowest
    (subst (λ (x : ℕ). d ∣ x) (sym (mul_comm e (unsigned_abs n) ∙ sizes)) (dvd-mul_left d (unsigned_abs m)))

-- numbers with equal cross products are one: a number has one form in lowest terms
pub same_cross : (p q : ℚ) → p.num *ℤ pos q.den ≡ q.num *ℤ pos p.den → p ≡ q
same_cross p q cross =
    let dens : p.den ≡ q.den = dvd_antisymm (den_divides p.num q.num p.den q.den p.lowest cross) (den_divides q.num p.num q.den p.den q.lowest (sym cross)) in
    let nums : p.num *ℤ pos p.den ≡ q.num *ℤ pos p.den = ap (λ (d : ℕ). p.num *ℤ pos d) dens ∙ cross in
    same_parts p q (mul-positive_cancel p.num q.num p.den p.positive nums) dens

-- ---- pairs that stand for a number

-- n / d, for a positive d, is the number q
pub record Represents (q : ℚ) (n : ℤ) (d : ℕ) : Type 0 where
  pub positive : 0 < d
  pub cross : q.num *ℤ pos d ≡ n *ℤ pos q.den

pub represents_parts : (q : ℚ) → Represents q q.num q.den
represents_parts q = record { positive = q.positive; cross = refl }

swap_factor : (g q r n d : ℕ) → g * q ≡ n → g * r ≡ d → q * d ≡ n * r
swap_factor g q r n d e f = rw (← e, ← f) (omega arith)

quotient_cross : (n : ℤ) (d g : ℕ) → IsGcd (unsigned_abs n) d g → exact_quotient n g *ℤ pos d ≡ n *ℤ pos (d / g)
quotient_cross (pos n) d g is = ap pos (swap_factor g (n / g) (d / g) n d (mul-div_cancel' g is.0) (mul-div_cancel' g is.1))
quotient_cross (negsuc n) d g is =
    neg-mul_ℤ (pos (suc n / g)) (pos d) ∙ ap (λ (k : ℕ). neg_ℤ (pos k)) (swap_factor g (suc n / g) (d / g) (suc n) d (mul-div_cancel' g is.0) (mul-div_cancel' g is.1))

pub fraction_represents : (n : ℤ) (d : ℕ) → 0 < d → Represents (fraction n d) n d
unfolding fraction
fraction_represents n zero h = absurd (omega arith)
fraction_represents n (suc d) h =
    record { positive = h; cross = quotient_cross n (suc d) (gcd (unsigned_abs n) (suc d)) (gcd_is (unsigned_abs n) (suc d)) }

-- ---- whole numbers

pub whole-num : (n : ℤ) → (whole n).num ≡ n
unfolding whole
whole-num n = refl

pub whole-den : (n : ℤ) → (whole n).den ≡ 1
unfolding whole
whole-den n = refl

pub whole_injective : (a b : ℤ) → whole a ≡ whole b → a ≡ b
whole_injective a b e = sym (whole-num a) ∙ ap (λ (q : ℚ). q.num) e ∙ whole-num b

pub fraction-one : (n : ℤ) → fraction n 1 ≡ whole n
unfolding whole
fraction-one n = same_cross (fraction n 1) (whole n) (fraction_represents n 1 (suc-positive 0)).cross

pub whole-add : (a b : ℤ) → whole a +ℚ whole b ≡ whole (a +ℤ b)
unfolding whole ◌+ℚ◌
whole-add a b = rw (mul-one_ℤ a, mul-one_ℤ b) (fraction-one (a +ℤ b))

pub whole-mul : (a b : ℤ) → whole a *ℚ whole b ≡ whole (a *ℤ b)
unfolding whole ◌*ℚ◌
whole-mul a b = fraction-one (a *ℤ b)

pub whole-neg : (a : ℤ) → neg_ℚ (whole a) ≡ whole (neg_ℤ a)
unfolding whole neg_ℚ
whole-neg a = same_parts (neg_ℚ (whole a)) (whole (neg_ℤ a)) refl refl

pub whole-sub : (a b : ℤ) → whole a -ℚ whole b ≡ whole (a +ℤ neg_ℤ b)
whole-sub a b = ap (λ (q : ℚ). whole a +ℚ q) (whole-neg b) ∙ whole-add a (neg_ℤ b)

pub whole-le : (a b : ℤ) → le_ℚ (whole a) (whole b) ≡ int_le a b
unfolding whole le_ℚ
whole-le a b = rw (mul-one_ℤ a, mul-one_ℤ b) refl

pub whole-lt : (a b : ℤ) → lt_ℚ (whole a) (whole b) ≡ int_lt a b
whole-lt a b = ap not (whole-le b a) ∙ not-le_ℤ a b

pub represents_whole : (n : ℤ) → Represents (whole n) n 1
unfolding whole
represents_whole n = record { positive = suc-positive 0; cross = refl }

-- two pairs of one number have equal cross products
pub same_number_cross : (q : ℚ) (n m : ℤ) (d e : ℕ) → Represents q n d → Represents q m e → n *ℤ pos e ≡ m *ℤ pos d
same_number_cross q n m d e left right =
    mul-positive_cancel (n *ℤ pos e) (m *ℤ pos d) q.den q.positive
    (ring integers (n ∷ pos e ∷ pos q.den ∷ []) (v0 ⊗ v1 ⊗ v2) (v0 ⊗ v2 ⊗ v1) refl
    ∙ ap (λ (x : ℤ). x *ℤ pos e) (sym left.cross)
    ∙ ring integers (q.num ∷ pos d ∷ pos e ∷ []) (v0 ⊗ v1 ⊗ v2) (v0 ⊗ v2 ⊗ v1) refl
    ∙ ap (λ (x : ℤ). x *ℤ pos d) right.cross
    ∙ ring integers (m ∷ pos q.den ∷ pos d ∷ []) (v0 ⊗ v1 ⊗ v2) (v0 ⊗ v2 ⊗ v1) refl)

-- numbers whose pairs have equal cross products are one
pub same_represented : (p q : ℚ) (n m : ℤ) (d e : ℕ) → Represents p n d → Represents q m e → n *ℤ pos e ≡ m *ℤ pos d → p ≡ q
same_represented p q n m d e left right cross =
    same_cross p q
    (mul-positive_cancel (p.num *ℤ pos q.den) (q.num *ℤ pos p.den) (d * e) (mul-pos left.positive right.positive)
    (ring integers (p.num ∷ pos q.den ∷ pos d ∷ pos e ∷ []) (v0 ⊗ v1 ⊗ (v2 ⊗ v3)) (v0 ⊗ v2 ⊗ (v1 ⊗ v3)) refl
    ∙ ap (λ (x : ℤ). x *ℤ (pos q.den *ℤ pos e)) left.cross
    ∙ ring integers (n ∷ pos p.den ∷ pos q.den ∷ pos e ∷ []) (v0 ⊗ v1 ⊗ (v2 ⊗ v3)) (v0 ⊗ v3 ⊗ (v1 ⊗ v2)) refl
    ∙ ap (λ (x : ℤ). x *ℤ (pos p.den *ℤ pos q.den)) cross
    ∙ ring integers (m ∷ pos d ∷ pos p.den ∷ pos q.den ∷ []) (v0 ⊗ v1 ⊗ (v2 ⊗ v3)) (v0 ⊗ v3 ⊗ (v1 ⊗ v2)) refl
    ∙ ap (λ (x : ℤ). x *ℤ (pos d *ℤ pos p.den)) (sym right.cross)
    ∙ ring integers (q.num ∷ pos e ∷ pos d ∷ pos p.den ∷ []) (v0 ⊗ v1 ⊗ (v2 ⊗ v3)) (v0 ⊗ v3 ⊗ (v2 ⊗ v1)) refl))

-- n / d and m / e are one number exactly where the cross products are equal
pub fraction_same : (n m : ℤ) (d e : ℕ) → 0 < d → 0 < e → (fraction n d ≡ fraction m e) ↔ (n *ℤ pos e ≡ m *ℤ pos d)
fraction_same n m d e h k =
    let left : Represents (fraction n d) n d = fraction_represents n d h in
    let right : Represents (fraction m e) m e = fraction_represents m e k in
    (λ same. same_number_cross (fraction n d) n m d e left (subst (λ (q : ℚ). Represents q m e) (sym same) right), same_represented (fraction n d) (fraction m e) n m d e left right)

-- a number is the fraction of its parts
pub fraction_parts : (q : ℚ) → fraction q.num q.den ≡ q
fraction_parts q = same_cross (fraction q.num q.den) q (fraction_represents q.num q.den q.positive).cross

-- a number that a pair stands for is the fraction of the pair
pub represented_is : (q : ℚ) (n : ℤ) (d : ℕ) → Represents q n d → q ≡ fraction n d
represented_is q n d r = same_represented q (fraction n d) n n d d r (fraction_represents n d r.positive) refl

-- a pair in lowest terms has the parts of its number
pub parts_of_lowest : (q : ℚ) (n : ℤ) (d : ℕ) → Represents q n d → IsGcd (unsigned_abs n) d 1 → (q.num ≡ n) × (q.den ≡ d)
parts_of_lowest q n d r lowest =
    let p : ℚ = record { num = n; den = d; positive = r.positive; lowest = lowest } in
    let same : q ≡ p = same_cross q p r.cross in
    (ap (λ (x : ℚ). x.num) same, ap (λ (x : ℚ). x.den) same)

-- ---- the operations on pairs

-- what a sum of pairs is, before and after the crosses are put in
sum_regroup : (pn pd qn qd b d s : ℤ) → (pn *ℤ qd +ℤ qn *ℤ pd) *ℤ s *ℤ (b *ℤ d) ≡ ((pn *ℤ b) *ℤ (qd *ℤ d) +ℤ (qn *ℤ d) *ℤ (pd *ℤ b)) *ℤ s
sum_regroup pn pd qn qd b d s =
    ring integers (pn ∷ pd ∷ qn ∷ qd ∷ b ∷ d ∷ s ∷ []) ((v0 ⊗ v3 ⊕ v2 ⊗ v1) ⊗ var 6 ⊗ (v4 ⊗ v5)) (((v0 ⊗ v4) ⊗ (v3 ⊗ v5) ⊕ (v2 ⊗ v5) ⊗ (v1 ⊗ v4)) ⊗ var 6) refl

sum_ungroup : (a b c d pd qd s : ℤ) → ((a *ℤ pd) *ℤ (qd *ℤ d) +ℤ (c *ℤ qd) *ℤ (pd *ℤ b)) *ℤ s ≡ (a *ℤ d +ℤ c *ℤ b) *ℤ s *ℤ (pd *ℤ qd)
sum_ungroup a b c d pd qd s =
    ring integers (a ∷ b ∷ c ∷ d ∷ pd ∷ qd ∷ s ∷ []) (((v0 ⊗ v4) ⊗ (v5 ⊗ v3) ⊕ (v2 ⊗ v5) ⊗ (v4 ⊗ v1)) ⊗ var 6) ((v0 ⊗ v3 ⊕ v2 ⊗ v1) ⊗ var 6 ⊗ (v4 ⊗ v5)) refl

pub add_represents : (p q : ℚ) (a c : ℤ) (b d : ℕ) → Represents p a b → Represents q c d → Represents (p +ℚ q) (a *ℤ pos d +ℤ c *ℤ pos b) (b * d)
unfolding ◌+ℚ◌
add_represents p q a c b d left right =
    let s : ℚ = p +ℚ q in
    let own : Represents s (p.num *ℤ pos q.den +ℤ q.num *ℤ pos p.den) (p.den * q.den) = fraction_represents (p.num *ℤ pos q.den +ℤ q.num *ℤ pos p.den) (p.den * q.den) (mul-pos p.positive q.positive) in
    record {
      positive = mul-pos left.positive right.positive;
      cross =
          mul-positive_cancel (s.num *ℤ pos (b * d)) ((a *ℤ pos d +ℤ c *ℤ pos b) *ℤ pos s.den) (p.den * q.den) (mul-pos p.positive q.positive)
          (ring integers (s.num ∷ pos b ∷ pos d ∷ pos p.den ∷ pos q.den ∷ []) (v0 ⊗ (v1 ⊗ v2) ⊗ (v3 ⊗ v4)) (v0 ⊗ (v3 ⊗ v4) ⊗ (v1 ⊗ v2)) refl
          ∙ ap (λ (x : ℤ). x *ℤ (pos b *ℤ pos d)) own.cross
          ∙ sum_regroup p.num (pos p.den) q.num (pos q.den) (pos b) (pos d) (pos s.den)
          ∙ ap (λ (x : ℤ). (x *ℤ (pos q.den *ℤ pos d) +ℤ (q.num *ℤ pos d) *ℤ (pos p.den *ℤ pos b)) *ℤ pos s.den) left.cross
          ∙ ap (λ (x : ℤ). ((a *ℤ pos p.den) *ℤ (pos q.den *ℤ pos d) +ℤ x *ℤ (pos p.den *ℤ pos b)) *ℤ pos s.den) right.cross
          ∙ sum_ungroup a (pos b) c (pos d) (pos p.den) (pos q.den) (pos s.den));
    }

pub mul_represents : (p q : ℚ) (a c : ℤ) (b d : ℕ) → Represents p a b → Represents q c d → Represents (p *ℚ q) (a *ℤ c) (b * d)
unfolding ◌*ℚ◌
mul_represents p q a c b d left right =
    let s : ℚ = p *ℚ q in
    let own : Represents s (p.num *ℤ q.num) (p.den * q.den) = fraction_represents (p.num *ℤ q.num) (p.den * q.den) (mul-pos p.positive q.positive) in
    record {
      positive = mul-pos left.positive right.positive;
      cross =
          mul-positive_cancel (s.num *ℤ pos (b * d)) ((a *ℤ c) *ℤ pos s.den) (p.den * q.den) (mul-pos p.positive q.positive)
          (ring integers (s.num ∷ pos b ∷ pos d ∷ pos p.den ∷ pos q.den ∷ []) (v0 ⊗ (v1 ⊗ v2) ⊗ (v3 ⊗ v4)) (v0 ⊗ (v3 ⊗ v4) ⊗ (v1 ⊗ v2)) refl
          ∙ ap (λ (x : ℤ). x *ℤ (pos b *ℤ pos d)) own.cross
          ∙ ring integers (p.num ∷ q.num ∷ pos s.den ∷ pos b ∷ pos d ∷ []) (v0 ⊗ v1 ⊗ v2 ⊗ (v3 ⊗ v4)) ((v0 ⊗ v3) ⊗ (v1 ⊗ v4) ⊗ v2) refl
          ∙ ap (λ (x : ℤ). x *ℤ (q.num *ℤ pos d) *ℤ pos s.den) left.cross
          ∙ ap (λ (x : ℤ). (a *ℤ pos p.den) *ℤ x *ℤ pos s.den) right.cross
          ∙ ring integers (a ∷ pos p.den ∷ c ∷ pos q.den ∷ pos s.den ∷ []) ((v0 ⊗ v1) ⊗ (v2 ⊗ v3) ⊗ v4) ((v0 ⊗ v2) ⊗ v4 ⊗ (v1 ⊗ v3)) refl);
    }

pub neg_represents : (p : ℚ) (a : ℤ) (b : ℕ) → Represents p a b → Represents (neg_ℚ p) (neg_ℤ a) b
unfolding neg_ℚ
neg_represents p a b r = record { positive = r.positive; cross = neg-mul_ℤ p.num (pos b) ∙ ap neg_ℤ r.cross ∙ sym (neg-mul_ℤ a (pos p.den)) }

-- the order of two numbers is that of the cross products of pairs for them
pub le_represented : (p q : ℚ) (n m : ℤ) (d e : ℕ) → Represents p n d → Represents q m e → le_ℚ p q ≡ int_le (n *ℤ pos e) (m *ℤ pos d)
unfolding le_ℚ
le_represented p q n m d e left right =
    let one : p.num *ℤ pos q.den *ℤ (pos d *ℤ pos e) ≡ n *ℤ pos e *ℤ (pos p.den *ℤ pos q.den) =
    ring integers (p.num ∷ pos q.den ∷ pos d ∷ pos e ∷ []) (v0 ⊗ v1 ⊗ (v2 ⊗ v3)) (v0 ⊗ v2 ⊗ (v1 ⊗ v3)) refl
    ∙ ap (λ (x : ℤ). x *ℤ (pos q.den *ℤ pos e)) left.cross
    ∙ ring integers (n ∷ pos p.den ∷ pos q.den ∷ pos e ∷ []) (v0 ⊗ v1 ⊗ (v2 ⊗ v3)) (v0 ⊗ v3 ⊗ (v1 ⊗ v2)) refl in
    let two : q.num *ℤ pos p.den *ℤ (pos d *ℤ pos e) ≡ m *ℤ pos d *ℤ (pos p.den *ℤ pos q.den) =
    ring integers (q.num ∷ pos p.den ∷ pos d ∷ pos e ∷ []) (v0 ⊗ v1 ⊗ (v2 ⊗ v3)) (v0 ⊗ v3 ⊗ (v1 ⊗ v2)) refl
    ∙ ap (λ (x : ℤ). x *ℤ (pos p.den *ℤ pos d)) right.cross
    ∙ ring integers (m ∷ pos q.den ∷ pos p.den ∷ pos d ∷ []) (v0 ⊗ v1 ⊗ (v2 ⊗ v3)) (v0 ⊗ v3 ⊗ (v2 ⊗ v1)) refl in
    sym (le-mul_positive (p.num *ℤ pos q.den) (q.num *ℤ pos p.den) (d * e) (mul-pos left.positive right.positive))
    ∙ ap (λ (x : ℤ). int_le x (q.num *ℤ pos p.den *ℤ (pos d *ℤ pos e))) one
    ∙ ap (λ (x : ℤ). int_le (n *ℤ pos e *ℤ (pos p.den *ℤ pos q.den)) x) two
    ∙ le-mul_positive (n *ℤ pos e) (m *ℤ pos d) (p.den * q.den) (mul-pos p.positive q.positive)
