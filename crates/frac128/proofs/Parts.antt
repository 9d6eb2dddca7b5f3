-- The numerator and the denominator, in lowest terms, of a sum, a product, a reciprocal and a quotient.
use Rattle.std.specs.Prelude.{◌≡◌, ◌≢◌, ℕ, ℤ, pos, negsuc, ◌+ℤ◌, ◌*ℤ◌, ◌*◌, ◌/◌, ◌<◌, zero, suc, refl, unsigned_abs, [], ◌∷◌}
use Rattle.std.specs.Int.{IsGcd, ◌∣◌}
use Rattle.std.proofs.Common.{arith, sym, ap, ◌∙◌, subst, mul-pos}
use Rattle.std.proofs.Math.Nat.{one-dvd, dvd_trans, dvd_refl, dvd-mul_left, dvd-mul_left_of_dvd, mul_comm, mul-div_cancel', pos_of_dvd_of_pos, eq_of_mul-eq-mul_left}
use Rattle.std.proofs.lemmas.Nat.Gcd.{IsGcd-swap}
use Rattle.std.proofs.lemmas.Int.{unsigned_abs-mul}
use Rattle.exact_field.specs.Rational.{ℚ, zero_ℚ, fraction, signed_den, inverse_ℚ, ◌+ℚ◌, ◌*ℚ◌}
use Rattle.exact_field.specs.Ring.{◌⊕◌, ◌⊗◌, v0, v1, v2, v3, v4}
use Rattle.exact_field.proofs.RingTool.{ring, integers}
use Rattle.exact_field.proofs.Integers.{mul-positive_cancel, add_comm_ℤ}
use Rattle.exact_field.proofs.Rationals.{inverse_represents}
use Rattle.exact_field.proofs.RationalLaws.{divides_other_factor, Represents, represents_parts, fraction_represents, parts_of_lowest, add_represents, mul_represents}
use Rattle.frac128.proofs.Coprime.{coprime_divisors, coprime_product, coprime_products, coprime_quotients, divides_summand}

-- a factor, from an equation of whole numbers
abs_factor : (n t : ℤ) (k : ℕ) → n *ℤ pos k ≡ t → k * unsigned_abs n ≡ unsigned_abs t
abs_factor n t k e = mul_comm k (unsigned_abs n) ∙ sym (unsigned_abs-mul n (pos k)) ∙ ap unsigned_abs e

divides_by : (k n t : ℕ) → k * n ≡ t → n ∣ t
divides_by k n t e = subst (λ (m : ℕ). n ∣ m) e (dvd-mul_left n k)

abs_divides : (n t : ℤ) (k : ℕ) → n *ℤ pos k ≡ t → unsigned_abs n ∣ unsigned_abs t
abs_divides n t k e = divides_by k (unsigned_abs n) (unsigned_abs t) (abs_factor n t k e)

divisor_positive : (a b g : ℕ) → IsGcd a b g → 0 < b → 0 < g
divisor_positive a b g is h = pos_of_dvd_of_pos is.1 h

-- ---- a fraction

-- the pair divided by its greatest common divisor has the parts of the number
pub reduced_parts : (n : ℤ) (d g : ℕ) (m : ℤ) (e : ℕ) → 0 < d → IsGcd (unsigned_abs n) d g → m *ℤ pos g ≡ n → g * e ≡ d → ((fraction n d).num ≡ m) × ((fraction n d).den ≡ e)
reduced_parts n d g m e h is en ed =
    let f : ℚ = fraction n d in
    let g_pos : 0 < g = divisor_positive (unsigned_abs n) d g is h in
    let e_pos : 0 < e = pos_of_dvd_of_pos (divides_by g e d ed) h in
    let own : f.num *ℤ pos d ≡ n *ℤ pos f.den = (fraction_represents n d h).cross in
    let cross : f.num *ℤ pos e ≡ m *ℤ pos f.den =
    mul-positive_cancel (f.num *ℤ pos e) (m *ℤ pos f.den) g g_pos
    (ring integers (f.num ∷ pos e ∷ pos g ∷ []) (v0 ⊗ v1 ⊗ v2) (v0 ⊗ (v2 ⊗ v1)) refl
    ∙ ap (λ (z : ℕ). f.num *ℤ pos z) ed
    ∙ own
    ∙ ap (λ (z : ℤ). z *ℤ pos f.den) (sym en)
    ∙ ring integers (m ∷ pos g ∷ pos f.den ∷ []) (v0 ⊗ v1 ⊗ v2) (v0 ⊗ v2 ⊗ v1) refl) in
    parts_of_lowest f m e (record { positive = e_pos; cross = cross }) (coprime_quotients (unsigned_abs n) d g (unsigned_abs m) e is g_pos (abs_factor m n g en) ed)

-- ---- a sum

-- the joint numerator over the greatest common divisor of the denominators
joint_numerator : (a c : ℤ) (b d g x y : ℕ) → g * x ≡ b → g * y ≡ d → a *ℤ pos d +ℤ c *ℤ pos b ≡ (a *ℤ pos y +ℤ c *ℤ pos x) *ℤ pos g
joint_numerator a c b d g x y eb ed =
    ap (λ (z : ℕ). a *ℤ pos z +ℤ c *ℤ pos b) (sym ed)
    ∙ ap (λ (z : ℕ). a *ℤ pos (g * y) +ℤ c *ℤ pos z) (sym eb)
    ∙ ring integers (a ∷ c ∷ pos g ∷ pos x ∷ pos y ∷ []) (v0 ⊗ (v2 ⊗ v4) ⊕ v1 ⊗ (v2 ⊗ v3)) ((v0 ⊗ v4 ⊕ v1 ⊗ v3) ⊗ v2) refl

-- a divisor of a sum a y + c x and of x divides a, where x and y have no common divisor
divides_left : (e : ℕ) (a c : ℤ) (x y : ℕ) → IsGcd x y 1 → e ∣ x → e ∣ unsigned_abs (a *ℤ pos y +ℤ c *ℤ pos x) → e ∣ unsigned_abs a
divides_left e a c x y coprime ex et =
    let of_right : e ∣ unsigned_abs (c *ℤ pos x) = subst (λ (n : ℕ). e ∣ n) (sym (unsigned_abs-mul c (pos x))) (dvd-mul_left_of_dvd e ex (unsigned_abs c)) in
    let of_left : e ∣ unsigned_abs a * y = subst (λ (n : ℕ). e ∣ n) (unsigned_abs-mul a (pos y)) (divides_summand e (a *ℤ pos y) (c *ℤ pos x) et of_right) in
    divides_other_factor y e (unsigned_abs a) (IsGcd-swap e y 1 (coprime_divisors x y e y coprime ex (dvd_refl y))) of_left

-- so the joint numerator has no divisor in common with x
coprime_left : (a c : ℤ) (b x y m : ℕ) → IsGcd (unsigned_abs a) b 1 → x ∣ b → IsGcd x y 1 → m ∣ unsigned_abs (a *ℤ pos y +ℤ c *ℤ pos x) → IsGcd m x 1
coprime_left a c b x y m lowest xb coprime mt =
    (one-dvd m, one-dvd x, λ e em ex. lowest.2 e (divides_left e a c x y coprime ex (dvd_trans e em mt)) (dvd_trans e ex xb))

-- with g the greatest common divisor of the denominators, x and y what it leaves of them, t the joint numerator
-- and k the greatest common divisor of t and g: the sum is t / k over x times what k leaves of the second denominator
pub sum_parts : (p q : ℚ) (g x y : ℕ) (t : ℤ) (k : ℕ) (n : ℤ) (e : ℕ) → IsGcd p.den q.den g → g * x ≡ p.den → g * y ≡ q.den → t ≡ p.num *ℤ pos y +ℤ q.num *ℤ pos x → IsGcd (unsigned_abs t) g k → n *ℤ pos k ≡ t → k * e ≡ q.den → ((p +ℚ q).num ≡ n) × ((p +ℚ q).den ≡ x * e)
sum_parts p q g x y t k n e is ex ey et is_k en ek =
    let s : ℚ = p +ℚ q in
    let m : ℕ = unsigned_abs n in
    let g_pos : 0 < g = divisor_positive p.den q.den g is q.positive in
    let k_pos : 0 < k = divisor_positive (unsigned_abs t) g k is_k g_pos in
    let h : ℕ = g / k in
    let eh : k * h ≡ g = mul-div_cancel' k is_k.1 in
    let e_is : e ≡ h * y = eq_of_mul-eq-mul_left k k_pos e (h * y) (ek ∙ sym ey ∙ ap (λ (z : ℕ). z * y) (sym eh) ∙ omega arith) in
    let x_divides : x ∣ p.den = divides_by g x p.den ex in
    let y_divides : y ∣ q.den = divides_by g y q.den ey in
    let coprime : IsGcd x y 1 = coprime_quotients p.den q.den g x y is g_pos ex ey in
    let of_t : m ∣ unsigned_abs t = abs_divides n t k en in
    let of_sum : m ∣ unsigned_abs (p.num *ℤ pos y +ℤ q.num *ℤ pos x) = subst (λ (z : ℤ). m ∣ unsigned_abs z) et of_t in
    let of_swapped : m ∣ unsigned_abs (q.num *ℤ pos x +ℤ p.num *ℤ pos y) = subst (λ (z : ℤ). m ∣ unsigned_abs z) (add_comm_ℤ (p.num *ℤ pos y) (q.num *ℤ pos x)) of_sum in
    let with_x : IsGcd m x 1 = coprime_left p.num q.num p.den x y m p.lowest x_divides coprime of_sum in
    let with_y : IsGcd m y 1 = coprime_left q.num p.num q.den y x m q.lowest y_divides (IsGcd-swap x y 1 coprime) of_swapped in
    let with_h : IsGcd m h 1 = coprime_quotients (unsigned_abs t) g k m h is_k k_pos (abs_factor n t k en) eh in
    let with_e : IsGcd m e 1 = subst (λ (z : ℕ). IsGcd m z 1) (sym e_is) (coprime_product m h y with_h with_y) in
    let x_pos : 0 < x = pos_of_dvd_of_pos x_divides p.positive in
    let e_pos : 0 < e = pos_of_dvd_of_pos (divides_by k e q.den ek) q.positive in
    let own : Represents s (p.num *ℤ pos q.den +ℤ q.num *ℤ pos p.den) (p.den * q.den) = add_represents p q p.num q.num p.den q.den (represents_parts p) (represents_parts q) in
    let cross : s.num *ℤ pos (x * e) ≡ n *ℤ pos s.den =
    mul-positive_cancel (s.num *ℤ pos (x * e)) (n *ℤ pos s.den) (g * k) (mul-pos g_pos k_pos)
    (ring integers (s.num ∷ pos x ∷ pos e ∷ pos g ∷ pos k ∷ []) (v0 ⊗ (v1 ⊗ v2) ⊗ (v3 ⊗ v4)) (v0 ⊗ ((v3 ⊗ v1) ⊗ (v4 ⊗ v2))) refl
    ∙ ap (λ (z : ℕ). s.num *ℤ pos (z * (k * e))) ex
    ∙ ap (λ (z : ℕ). s.num *ℤ pos (p.den * z)) ek
    ∙ own.cross
    ∙ ap (λ (z : ℤ). z *ℤ pos s.den) (joint_numerator p.num q.num p.den q.den g x y ex ey)
    ∙ ap (λ (z : ℤ). z *ℤ pos g *ℤ pos s.den) (sym et ∙ sym en)
    ∙ ring integers (n ∷ pos k ∷ pos g ∷ pos s.den ∷ []) ((v0 ⊗ v1) ⊗ v2 ⊗ v3) (v0 ⊗ v3 ⊗ (v2 ⊗ v1)) refl) in
    parts_of_lowest s n (x * e) (record { positive = mul-pos x_pos e_pos; cross = cross }) (coprime_product m x e with_x with_e)

-- ---- a product

-- each numerator is divided by its greatest common divisor with the other denominator, and so are the denominators
pub product_parts : (p q : ℚ) (g k : ℕ) (a c : ℤ) (b d : ℕ) → IsGcd (unsigned_abs p.num) q.den g → IsGcd (unsigned_abs q.num) p.den k → a *ℤ pos g ≡ p.num → c *ℤ pos k ≡ q.num → k * b ≡ p.den → g * d ≡ q.den → ((p *ℚ q).num ≡ a *ℤ c) × ((p *ℚ q).den ≡ b * d)
product_parts p q g k a c b d is_g is_k ea ec eb ed =
    let s : ℚ = p *ℚ q in
    let g_pos : 0 < g = divisor_positive (unsigned_abs p.num) q.den g is_g q.positive in
    let k_pos : 0 < k = divisor_positive (unsigned_abs q.num) p.den k is_k p.positive in
    let b_divides : b ∣ p.den = divides_by k b p.den eb in
    let d_divides : d ∣ q.den = divides_by g d q.den ed in
    let ab : IsGcd (unsigned_abs a) b 1 = coprime_divisors (unsigned_abs p.num) p.den (unsigned_abs a) b p.lowest (abs_divides a p.num g ea) b_divides in
    let ad : IsGcd (unsigned_abs a) d 1 = coprime_quotients (unsigned_abs p.num) q.den g (unsigned_abs a) d is_g g_pos (abs_factor a p.num g ea) ed in
    let cb : IsGcd (unsigned_abs c) b 1 = coprime_quotients (unsigned_abs q.num) p.den k (unsigned_abs c) b is_k k_pos (abs_factor c q.num k ec) eb in
    let cd : IsGcd (unsigned_abs c) d 1 = coprime_divisors (unsigned_abs q.num) q.den (unsigned_abs c) d q.lowest (abs_divides c q.num k ec) d_divides in
    let own : Represents s (p.num *ℤ q.num) (p.den * q.den) = mul_represents p q p.num q.num p.den q.den (represents_parts p) (represents_parts q) in
    let cross : s.num *ℤ pos (b * d) ≡ a *ℤ c *ℤ pos s.den =
    mul-positive_cancel (s.num *ℤ pos (b * d)) (a *ℤ c *ℤ pos s.den) (g * k) (mul-pos g_pos k_pos)
    (ring integers (s.num ∷ pos b ∷ pos d ∷ pos g ∷ pos k ∷ []) (v0 ⊗ (v1 ⊗ v2) ⊗ (v3 ⊗ v4)) (v0 ⊗ ((v4 ⊗ v1) ⊗ (v3 ⊗ v2))) refl
    ∙ ap (λ (z : ℕ). s.num *ℤ pos (z * (g * d))) eb
    ∙ ap (λ (z : ℕ). s.num *ℤ pos (p.den * z)) ed
    ∙ own.cross
    ∙ ap (λ (z : ℤ). z *ℤ q.num *ℤ pos s.den) (sym ea)
    ∙ ap (λ (z : ℤ). a *ℤ pos g *ℤ z *ℤ pos s.den) (sym ec)
    ∙ ring integers (a ∷ pos g ∷ c ∷ pos k ∷ pos s.den ∷ []) (v0 ⊗ v1 ⊗ (v2 ⊗ v3) ⊗ v4) (v0 ⊗ v2 ⊗ v4 ⊗ (v1 ⊗ v3)) refl) in
    let positive : 0 < b * d = mul-pos (pos_of_dvd_of_pos b_divides p.positive) (pos_of_dvd_of_pos d_divides q.positive) in
    parts_of_lowest s (a *ℤ c) (b * d) (record { positive = positive; cross = cross })
    (subst (λ (z : ℕ). IsGcd z (b * d) 1) (sym (unsigned_abs-mul a c)) (coprime_products (unsigned_abs a) (unsigned_abs c) b d ab ad cb cd))

-- ---- a reciprocal

signed_den_size : (n : ℤ) (d : ℕ) → unsigned_abs (signed_den n d) ≡ d
signed_den_size (pos n) d = refl
signed_den_size (negsuc n) zero = refl
signed_den_size (negsuc n) (suc d) = refl

pub reciprocal_parts : (q : ℚ) → q ≢ zero_ℚ → ((inverse_ℚ q).num ≡ signed_den q.num q.den) × ((inverse_ℚ q).den ≡ unsigned_abs q.num)
reciprocal_parts q h =
    parts_of_lowest (inverse_ℚ q) (signed_den q.num q.den) (unsigned_abs q.num) (inverse_represents q h)
    (subst (λ (z : ℕ). IsGcd z (unsigned_abs q.num) 1) (sym (signed_den_size q.num q.den)) (IsGcd-swap (unsigned_abs q.num) q.den 1 q.lowest))
