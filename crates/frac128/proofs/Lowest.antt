-- Numbers whose parts are known by sign, magnitude and denominator.
use Rattle.std.specs.Prelude.{◌≡◌, ◌≢◌, ℕ, ℤ, pos, negsuc, ◌+◌, ◌*◌, ◌/◌, ◌^◌, ◌<◌, ◌≤◌, ◌+ℤ◌, ◌*ℤ◌, unsigned_abs, Bool, true, false, IsTrue, IsFalse, refl, [], ◌∷◌}
use Rattle.std.specs.Int.{IsGcd, ◌∣◌}
use Rattle.std.proofs.Common.{arith, sym, ap, ◌∙◌, subst}
use Rattle.std.proofs.Math.Nat.{mul-div_cancel', mul_comm, dvd_trans, le_of_dvd, mul-le-mul_left, pos_of_dvd_of_pos}
use Rattle.std.proofs.lemmas.Nat.{le-div, mod-mul-add}
use Rattle.exact_field.specs.Gcd.{gcd, gcd_is}
use Rattle.std.proofs.lemmas.Nat.Gcd.{IsGcd-swap, IsGcd-from_mod}
use Rattle.exact_field.specs.Rational.{ℚ, same_parts, zero_ℚ, fraction, whole, inverse_ℚ, signed_den, ◌+ℚ◌, ◌*ℚ◌, ◌/ℚ◌}
use Rattle.exact_field.specs.Ring.{◌⊗◌, ⊖, v0, v1}
use Rattle.exact_field.proofs.RingTool.{ring, integers}
use Rattle.exact_field.proofs.RationalLaws.{Represents, represents_whole, represented_is, mul_represents, whole-num, whole-den, whole_injective}
use Rattle.exact_field.proofs.Rationals.{inverse_represents}
use Rattle.frac128.specs.Held.{is_held}
use Rattle.frac128.specs.Signed.{signed, is_below_zero, differ}
use Rattle.frac128.proofs.Holds.{held_by_sizes, wide_by_num, wide_by_den, size-signed}
use Rattle.frac128.proofs.Parts.{reduced_parts, sum_parts, product_parts, reciprocal_parts}

-- ---- signs

pub signed_is : (n : ℤ) → signed (is_below_zero n) (unsigned_abs n) ≡ n
signed_is (pos n) = refl
signed_is (negsuc n) = refl

pub signed-mul : (s t : Bool) (m n : ℕ) → signed s m *ℤ signed t n ≡ signed (differ s t) (m * n)
signed-mul true true m n = ring integers (pos m ∷ pos n ∷ []) (⊖ v0 ⊗ ⊖ v1) (v0 ⊗ v1) refl
signed-mul true false m n = ring integers (pos m ∷ pos n ∷ []) (⊖ v0 ⊗ v1) (⊖ (v0 ⊗ v1)) refl
signed-mul false true m n = ring integers (pos m ∷ pos n ∷ []) (v0 ⊗ ⊖ v1) (⊖ (v0 ⊗ v1)) refl
signed-mul false false m n = refl

pub signed-mul_pos : (s : Bool) (m n : ℕ) → signed s m *ℤ pos n ≡ signed s (m * n)
signed-mul_pos true m n = ring integers (pos m ∷ pos n ∷ []) (⊖ v0 ⊗ v1) (⊖ (v0 ⊗ v1)) refl
signed-mul_pos false m n = refl

-- the exact quotient of a whole number, with its sign
quotient_times : (n : ℤ) (g : ℕ) → g ∣ unsigned_abs n → signed (is_below_zero n) (unsigned_abs n / g) *ℤ pos g ≡ n
quotient_times n g h =
    signed-mul_pos (is_below_zero n) (unsigned_abs n / g) g
    ∙ ap (signed (is_below_zero n)) (mul_comm (unsigned_abs n / g) g ∙ mul-div_cancel' g h)
    ∙ signed_is n

-- ---- a number by its parts

-- q has this sign, this magnitude of the numerator and this denominator
pub record IsLowest (q : ℚ) (s : Bool) (n d : ℕ) : Type 0 where
  pub num : q.num ≡ signed s n
  pub den : q.den ≡ d

pub lowest_positive : (q : ℚ) (s : Bool) (n d : ℕ) → IsLowest q s n d → 0 < d
lowest_positive q s n d is = subst (λ (x : ℕ). 0 < x) is.den q.positive

lowest_size : (q : ℚ) (s : Bool) (n d : ℕ) → IsLowest q s n d → unsigned_abs q.num ≡ n
lowest_size q s n d is = ap unsigned_abs is.num ∙ size-signed s n

pub lowest_coprime : (q : ℚ) (s : Bool) (n d : ℕ) → IsLowest q s n d → IsGcd n d 1
lowest_coprime q s n d is = subst (λ (x : ℕ). IsGcd n x 1) is.den (subst (λ (x : ℕ). IsGcd x q.den 1) (lowest_size q s n d is) q.lowest)

pub lowest_held : (q : ℚ) (s : Bool) (n d : ℕ) → IsLowest q s n d → n < 2 ^ 120 → d < 2 ^ 120 → IsTrue (is_held q)
lowest_held q s n d is h k = let size = lowest_size q s n d is in let den : q.den ≡ d = is.den in held_by_sizes q (omega arith) (omega arith)

pub lowest_wide_num : (q : ℚ) (s : Bool) (n d : ℕ) → IsLowest q s n d → 2 ^ 120 ≤ n → IsFalse (is_held q)
lowest_wide_num q s n d is h = let size = lowest_size q s n d is in wide_by_num q (omega arith)

pub lowest_wide_den : (q : ℚ) (s : Bool) (n d : ℕ) → IsLowest q s n d → 2 ^ 120 ≤ d → IsFalse (is_held q)
lowest_wide_den q s n d is h = let den : q.den ≡ d = is.den in wide_by_den q (omega arith)

pub lowest_same : (q r : ℚ) (s : Bool) (n d : ℕ) → IsLowest q s n d → r.num ≡ signed s n → r.den ≡ d → r ≡ q
lowest_same q r s n d is e f = same_parts r q (e ∙ sym is.num) (f ∙ sym is.den)

-- ---- what the operations give

pub reduced_lowest : (s : Bool) (n d g m e : ℕ) → 0 < d → IsGcd n d g → m ≡ n / g → e ≡ d / g → IsLowest (fraction (signed s n) d) s m e
reduced_lowest s n d g m e h is em ee =
    let parts = reduced_parts (signed s n) d g (signed s m) e h (subst (λ (x : ℕ). IsGcd x d g) (sym (size-signed s n)) is)
    (signed-mul_pos s m g ∙ ap (signed s) (ap (λ (x : ℕ). x * g) em ∙ mul_comm (n / g) g ∙ mul-div_cancel' g is.0))
    (ap (λ (x : ℕ). g * x) ee ∙ mul-div_cancel' g is.1) in
    record { num = parts.0; den = parts.1 }

product_lowest_by : (p q : ℚ) (g k : ℕ) → IsGcd (unsigned_abs p.num) q.den g → IsGcd (unsigned_abs q.num) p.den k → IsLowest (p *ℚ q) (differ (is_below_zero p.num) (is_below_zero q.num)) (unsigned_abs p.num / g * (unsigned_abs q.num / k)) (p.den / k * (q.den / g))
product_lowest_by p q g k is_g is_k =
    let parts = product_parts p q g k (signed (is_below_zero p.num) (unsigned_abs p.num / g)) (signed (is_below_zero q.num) (unsigned_abs q.num / k)) (p.den / k) (q.den / g) is_g is_k
    (quotient_times p.num g is_g.0) (quotient_times q.num k is_k.0) (mul-div_cancel' k is_k.1) (mul-div_cancel' g is_g.1) in
    record {
      num = parts.0 ∙ signed-mul (is_below_zero p.num) (is_below_zero q.num) (unsigned_abs p.num / g) (unsigned_abs q.num / k);
      den = parts.1;
    }

-- the parts of a fraction as it is stored
pub record IsStored (q : ℚ) (n : ℤ) (d : ℕ) : Type 0 where
  pub num : n ≡ q.num
  pub den : d ≡ q.den

pub stored : (p q : ℚ) → p ≡ q → IsStored q p.num p.den
stored p q e = record { num = ap (λ (x : ℚ). x.num) e; den = ap (λ (x : ℚ). x.den) e }

-- the numbers that the product computes
pub product_lowest : (p q : ℚ) (n m : ℤ) (b d x y g k n' m' b' d' : ℕ) → IsStored p n b → IsStored q m d → x ≡ unsigned_abs n → y ≡ unsigned_abs m → IsGcd x d g → IsGcd y b k → n' ≡ x / g → m' ≡ y / k → b' ≡ b / k → d' ≡ d / g → IsLowest (p *ℚ q) (differ (is_below_zero n) (is_below_zero m)) (n' * m') (b' * d')
product_lowest p q n m b d x y g k n' m' b' d' sp sq ex ey is_g is_k en em eb ed =
    let xp : x ≡ unsigned_abs p.num = ex ∙ ap unsigned_abs sp.num in
    let yq : y ≡ unsigned_abs q.num = ey ∙ ap unsigned_abs sq.num in
    let gcd_g : IsGcd (unsigned_abs p.num) q.den g = subst (λ (z : ℕ). IsGcd (unsigned_abs p.num) z g) sq.den (subst (λ (z : ℕ). IsGcd z d g) xp is_g) in
    let gcd_k : IsGcd (unsigned_abs q.num) p.den k = subst (λ (z : ℕ). IsGcd (unsigned_abs q.num) z k) sp.den (subst (λ (z : ℕ). IsGcd z b k) yq is_k) in
    let by = product_lowest_by p q g k gcd_g gcd_k in
    let np : n' ≡ unsigned_abs p.num / g = en ∙ ap (λ (z : ℕ). z / g) xp in
    let mq : m' ≡ unsigned_abs q.num / k = em ∙ ap (λ (z : ℕ). z / k) yq in
    let bp : b' ≡ p.den / k = eb ∙ ap (λ (z : ℕ). z / k) sp.den in
    let dq : d' ≡ q.den / g = ed ∙ ap (λ (z : ℕ). z / g) sq.den in
    let signs : differ (is_below_zero n) (is_below_zero m) ≡ differ (is_below_zero p.num) (is_below_zero q.num) = ap (λ (z : ℤ). differ (is_below_zero z) (is_below_zero m)) sp.num ∙ ap (λ (z : ℤ). differ (is_below_zero p.num) (is_below_zero z)) sq.num in
    record {
      num =
          by.num
          ∙ ap (λ (z : Bool). signed z (unsigned_abs p.num / g * (unsigned_abs q.num / k))) (sym signs)
          ∙ ap (λ (z : ℕ). signed (differ (is_below_zero n) (is_below_zero m)) (z * (unsigned_abs q.num / k))) (sym np)
          ∙ ap (λ (z : ℕ). signed (differ (is_below_zero n) (is_below_zero m)) (n' * z)) (sym mq);
      den = by.den ∙ ap (λ (z : ℕ). z * (q.den / g)) (sym bp) ∙ ap (λ (z : ℕ). b' * z) (sym dq);
    }

reciprocal_num : (n : ℤ) (d : ℕ) → signed_den n d ≡ signed (is_below_zero n) d
reciprocal_num (pos n) d = refl
reciprocal_num (negsuc n) d = refl

pub reciprocal_lowest : (q : ℚ) (n : ℤ) (d x : ℕ) → q ≢ zero_ℚ → IsStored q n d → x ≡ unsigned_abs n → IsLowest (inverse_ℚ q) (is_below_zero n) d x
reciprocal_lowest q n d x h st ex =
    let parts = reciprocal_parts q h in
    record {
      num =
          parts.0 ∙ reciprocal_num q.num q.den
          ∙ ap (λ (z : ℤ). signed (is_below_zero z) q.den) (sym st.num)
          ∙ ap (λ (z : ℕ). signed (is_below_zero n) z) (sym st.den);
      den = parts.1 ∙ ap unsigned_abs (sym st.num) ∙ sym ex;
    }

-- ---- the sum

total_size : (s : Bool) (n g r : ℕ) (t : ℤ) → signed s (n * g + r) ≡ t → unsigned_abs t ≡ n * g + r
total_size s n g r t e = ap unsigned_abs (sym e) ∙ size-signed s (n * g + r)

-- a remainder has the same common divisors with the divisor as the number
gcd_of_total : (n g r k : ℕ) → r < g → IsGcd r g k → IsGcd (n * g + r) g k
gcd_of_total n g r k h is = IsGcd-from_mod (n * g + r) g k (subst (λ (z : ℕ). IsGcd g z k) (sym (mod-mul-add n g r h)) (IsGcd-swap r g k is))

divided : (w h u k g r : ℕ) → k * h ≡ g → k * u ≡ r → (w * h + u) * k ≡ w * g + r
divided w h u k g r e f = rw (← e, ← f) (omega arith)

-- for a joint numerator of sign s and magnitude t
pub sum_lowest_by : (p q : ℚ) (n m : ℤ) (b d g x y : ℕ) (s : Bool) (t k u e : ℕ) → IsStored p n b → IsStored q m d → IsGcd b d g → x ≡ b / g → y ≡ d / g → signed s t ≡ n *ℤ pos y +ℤ m *ℤ pos x → IsGcd t g k → u * k ≡ t → e ≡ d / k → IsLowest (p +ℚ q) s u (x * e)
sum_lowest_by p q n m b d g x y s t k u e sp sq is_g ex ey et is_k eu ee =
    let gcd_g : IsGcd p.den q.den g = subst (λ (z : ℕ). IsGcd p.den z g) sq.den (subst (λ (z : ℕ). IsGcd z d g) sp.den is_g) in
    let gx : g * x ≡ p.den = ap (λ (z : ℕ). g * z) ex ∙ mul-div_cancel' g is_g.0 ∙ sp.den in
    let gy : g * y ≡ q.den = ap (λ (z : ℕ). g * z) ey ∙ mul-div_cancel' g is_g.1 ∙ sq.den in
    let total : signed s t ≡ p.num *ℤ pos y +ℤ q.num *ℤ pos x = et ∙ ap (λ (z : ℤ). z *ℤ pos y +ℤ m *ℤ pos x) sp.num ∙ ap (λ (z : ℤ). p.num *ℤ pos y +ℤ z *ℤ pos x) sq.num in
    let gcd_t : IsGcd (unsigned_abs (signed s t)) g k = subst (λ (z : ℕ). IsGcd z g k) (sym (size-signed s t)) is_k in
    let ke : k * e ≡ q.den = ap (λ (z : ℕ). k * z) ee ∙ mul-div_cancel' k (dvd_trans k is_k.1 is_g.1) ∙ sq.den in
    let parts = sum_parts p q g x y (signed s t) k (signed s u) e gcd_g gx gy total gcd_t (signed-mul_pos s u k ∙ ap (signed s) eu) ke in
    record { num = parts.0; den = parts.1 }

-- for one of magnitude w g + r
pub sum_lowest : (p q : ℚ) (n m : ℤ) (b d g x y : ℕ) (s : Bool) (w r k h u e : ℕ) → IsStored p n b → IsStored q m d → IsGcd b d g → x ≡ b / g → y ≡ d / g → signed s (w * g + r) ≡ n *ℤ pos y +ℤ m *ℤ pos x → r < g → IsGcd r g k → h ≡ g / k → u ≡ r / k → e ≡ d / k → IsLowest (p +ℚ q) s (w * h + u) (x * e)
sum_lowest p q n m b d g x y s w r k h u e sp sq is_g ex ey et below is_k eh eu ee =
    let kh : k * h ≡ g = ap (λ (z : ℕ). k * z) eh ∙ mul-div_cancel' k is_k.1 in
    let ku : k * u ≡ r = ap (λ (z : ℕ). k * z) eu ∙ mul-div_cancel' k is_k.0 in
    sum_lowest_by p q n m b d g x y s (w * g + r) k (w * h + u) e sp sq is_g ex ey et (gcd_of_total w g r k below is_k) (divided w h u k g r kh ku) ee

-- for one that is a whole number t
pub sum_lowest_of : (p q : ℚ) (n m : ℤ) (b d g x y : ℕ) (t : ℤ) (k e : ℕ) → IsStored p n b → IsStored q m d → IsGcd b d g → x ≡ b / g → y ≡ d / g → t ≡ n *ℤ pos y +ℤ m *ℤ pos x → IsGcd (unsigned_abs t) g k → e ≡ d / k → IsLowest (p +ℚ q) (is_below_zero t) (unsigned_abs t / k) (x * e)
sum_lowest_of p q n m b d g x y t k e sp sq is_g ex ey et is_k ee =
    sum_lowest_by p q n m b d g x y (is_below_zero t) (unsigned_abs t) k (unsigned_abs t / k) e sp sq is_g ex ey (signed_is t ∙ et) is_k (mul_comm (unsigned_abs t / k) k ∙ mul-div_cancel' k is_k.0) ee

wide_quotient : (t g k m : ℕ) → 0 < g → k ∣ g → m * g ≤ t → m ≤ t / k
wide_quotient t g k m h kg big =
    let few : k ≤ g = le_of_dvd h kg in
    let less : m * k ≤ m * g = mul-le-mul_left m few in
    le-div m t k (pos_of_dvd_of_pos kg h) (omega arith)

-- where the joint numerator is at least 2^120 times the greatest common divisor of the denominators, the sum is not held
pub sum_wide : (p q : ℚ) (n m : ℤ) (b d g x y : ℕ) → IsStored p n b → IsStored q m d → 0 < g → IsGcd b d g → x ≡ b / g → y ≡ d / g → 2 ^ 120 * g ≤ unsigned_abs (n *ℤ pos y +ℤ m *ℤ pos x) → IsFalse (is_held (p +ℚ q))
sum_wide p q n m b d g x y sp sq some is_g ex ey big =
    let t : ℤ = n *ℤ pos y +ℤ m *ℤ pos x in
    let k : ℕ = gcd (unsigned_abs t) g in
    let is_k : IsGcd (unsigned_abs t) g k = gcd_is (unsigned_abs t) g in
    let lowest = sum_lowest_of p q n m b d g x y t k (d / k) sp sq is_g ex ey refl is_k refl in
    lowest_wide_num (p +ℚ q) (is_below_zero t) (unsigned_abs t / k) (x * (d / k)) lowest (wide_quotient (unsigned_abs t) g k (2 ^ 120) some is_k.1 big)

-- ---- a quotient of two whole numbers

quotient_sign : (n d : ℤ) → n *ℤ signed_den d 1 ≡ signed (differ (is_below_zero n) (is_below_zero d)) (unsigned_abs n)
quotient_sign n d =
    ap (λ (z : ℤ). z *ℤ signed_den d 1) (sym (signed_is n))
    ∙ ap (λ (z : ℤ). signed (is_below_zero n) (unsigned_abs n) *ℤ z) (reciprocal_num d 1)
    ∙ signed-mul (is_below_zero n) (is_below_zero d) (unsigned_abs n) 1
    ∙ ap (signed (differ (is_below_zero n) (is_below_zero d))) (omega arith)

whole-not-zero : (d : ℤ) → d ≢ pos 0 → whole d ≢ zero_ℚ
whole-not-zero d h e = h (whole_injective d (pos 0) e)

pub quotient_fraction : (n d : ℤ) → d ≢ pos 0 → whole n /ℚ whole d ≡ fraction (signed (differ (is_below_zero n) (is_below_zero d)) (unsigned_abs n)) (unsigned_abs d)
quotient_fraction n d h =
    let own = inverse_represents (whole d) (whole-not-zero d h) in
    let of_num : Represents (inverse_ℚ (whole d)) (signed_den d (whole d).den) (unsigned_abs d) = subst (λ (z : ℤ). Represents (inverse_ℚ (whole d)) (signed_den z (whole d).den) (unsigned_abs z)) (whole-num d) own in
    let of_one : Represents (inverse_ℚ (whole d)) (signed_den d 1) (unsigned_abs d) = subst (λ (z : ℕ). Represents (inverse_ℚ (whole d)) (signed_den d z) (unsigned_abs d)) (whole-den d) of_num in
    let both : Represents (whole n /ℚ whole d) (n *ℤ signed_den d 1) (1 * unsigned_abs d) = mul_represents (whole n) (inverse_ℚ (whole d)) n (signed_den d 1) 1 (unsigned_abs d) (represents_whole n) of_one in
    represented_is (whole n /ℚ whole d) (n *ℤ signed_den d 1) (1 * unsigned_abs d) both
    ∙ ap (λ (z : ℤ). fraction z (1 * unsigned_abs d)) (quotient_sign n d)
    ∙ ap (fraction (signed (differ (is_below_zero n) (is_below_zero d)) (unsigned_abs n))) (omega arith)

pub lowest_at : (q : ℚ) (s s' : Bool) (n n' d d' : ℕ) → IsLowest q s n d → s' ≡ s → n' ≡ n → d' ≡ d → IsLowest q s' n' d'
lowest_at q s s' n n' d d' is es en ed =
    record {
      num = is.num ∙ ap (λ (z : Bool). signed z n) (sym es) ∙ ap (signed s') (sym en);
      den = is.den ∙ sym ed;
    }

-- a stored number by its sign and magnitude
pub stored_lowest : (q : ℚ) (n : ℤ) (b : ℕ) (s : Bool) (x d : ℕ) → IsStored q n b → s ≡ is_below_zero n → x ≡ unsigned_abs n → d ≡ b → IsLowest q s x d
stored_lowest q n b s x d st es ex ed =
    record {
      num = sym st.num ∙ sym (signed_is n) ∙ ap (λ (z : ℕ). signed (is_below_zero n) z) (sym ex) ∙ ap (λ (z : Bool). signed z x) (sym es);
      den = sym st.den ∙ sym ed;
    }
