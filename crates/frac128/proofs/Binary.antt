-- The greatest common divisor of odd numbers by differences without their powers of 2.
use Rattle.std.specs.Prelude.{◌≡◌, ◌≢◌, ℕ, zero, suc, ◌*◌, ◌+◌, ◌-◌, ◌/◌, ◌%◌, ◌^◌, ◌<◌, ◌≤◌, ◌⊎◌, min, max}
use mir.Syntax.{Width, w64}
use mir.Val.{bits}
use Rattle.std.specs.Int.{IsGcd, ◌∣◌, bit_at, trailing_zeros}
use Rattle.std.proofs.Common.{arith, sym, ap, ◌∙◌, subst, inl, inr}
use Rattle.std.proofs.Math.Nat.{one-dvd, dvd_refl, dvd_trans, dvd-mul_left, dvd-mul_right, mul-dvd-mul_left, dvd_of_mul-dvd-mul_left, mul-div_cancel', mul-div_cancel_left, mul_comm, mod-eq-zero_of_dvd, eq-zero_of_zero-dvd, le_of_dvd, mod-eq_of_lt, pow-suc, div-add-mod, mul-sub, lt_of_mul-lt-mul_left}
use Rattle.std.proofs.lemmas.Bool.{cases_lt}
use Rattle.std.proofs.lemmas.Nat.{pow_pos, pow-add, mod-pow-add}
use Rattle.std.proofs.lemmas.Nat.Bits.{bit_at-trailing_zeros}
use Rattle.std.proofs.lemmas.Nat.Gcd.{IsGcd-swap, IsGcd-from_sub}
use Rattle.exact_field.specs.Gcd.{gcd, gcd_is}
use Rattle.exact_field.proofs.RationalLaws.{divides_other_factor}
use Rattle.frac128.proofs.Coprime.{coprime_product, coprime_divisors}

-- ---- powers of 2 and odd numbers

common_with_two : (y d : ℕ) → y % 2 ≡ 1 → d ∣ y → d ∣ 2 → (d ≡ 0) ⊎ ((d ≡ 1) ⊎ (d ≡ 2)) → d ∣ 1
common_with_two y d h dy dt (inl e) = let none : ◌≡◌ {A = ℕ} 2 0 = eq-zero_of_zero-dvd (subst (λ (n : ℕ). n ∣ 2) e dt) in absurd (omega arith)
common_with_two y d h dy dt (inr (inl e)) = subst (λ (n : ℕ). n ∣ 1) (sym e) (dvd_refl 1)
common_with_two y d h dy dt (inr (inr e)) = let even : y % 2 ≡ 0 = mod-eq-zero_of_dvd 2 (subst (λ (n : ℕ). n ∣ y) e dy) in absurd (omega arith)

few : (d : ℕ) → d ≤ 2 → (d ≡ 0) ⊎ ((d ≡ 1) ⊎ (d ≡ 2))
few d h = grind arith

odd_coprime_two : (y : ℕ) → y % 2 ≡ 1 → IsGcd y 2 1
odd_coprime_two y h = (one-dvd y, one-dvd 2, λ d dy dt. common_with_two y d h dy dt (few d (le_of_dvd (omega arith) dt)))

odd_coprime_power : (y k : ℕ) → y % 2 ≡ 1 → IsGcd y (2 ^ k) 1
odd_coprime_power y zero h = (one-dvd y, one-dvd (2 ^ 0), λ d dy dt. dt)
odd_coprime_power y (suc k) h = subst (λ (n : ℕ). IsGcd y n 1) (sym (pow-suc 2 k)) (coprime_product y (2 ^ k) 2 (odd_coprime_power y k h) (odd_coprime_two y h))

-- a power of 2 in one number changes no common divisor with an odd number
pub gcd_with_power : (k x y g : ℕ) → y % 2 ≡ 1 → IsGcd x y g → IsGcd (2 ^ k * x) y g
gcd_with_power k x y g h is = (
  dvd_trans g is.0 (dvd-mul_left x (2 ^ k)),
  is.1,
  λ d dx dy.
      is.2 d
      (divides_other_factor (2 ^ k) d x
      (IsGcd-swap d (2 ^ k) 1 (coprime_divisors y (2 ^ k) d (2 ^ k) (odd_coprime_power y k h) dy (dvd_refl (2 ^ k))))
      (subst (λ (n : ℕ). d ∣ n) (mul_comm (2 ^ k) x) dx)) dy,
)

-- what has a factor in both numbers has it in their greatest common divisor
pub gcd_scaled : (k m n g : ℕ) → 0 < k → IsGcd m n g → IsGcd (k * m) (k * n) (k * g)
gcd_scaled k m n g h is =
    let all : ℕ = gcd (k * m) (k * n) in
    let is_all = gcd_is (k * m) (k * n) in
    let whole : k * (all / k) ≡ all = mul-div_cancel' k (is_all.2 k (dvd-mul_right k m) (dvd-mul_right k n)) in
    let of_m : all / k ∣ m = dvd_of_mul-dvd-mul_left (all / k) h (subst (λ (z : ℕ). z ∣ k * m) (sym whole) is_all.0) in
    let of_n : all / k ∣ n = dvd_of_mul-dvd-mul_left (all / k) h (subst (λ (z : ℕ). z ∣ k * n) (sym whole) is_all.1) in
    let below : all ∣ k * g = subst (λ (z : ℕ). z ∣ k * g) whole (mul-dvd-mul_left (all / k) k (is.2 (all / k) of_m of_n)) in
    (mul-dvd-mul_left g k is.0, mul-dvd-mul_left g k is.1, λ d dm dn. dvd_trans d (is_all.2 d dm dn) below)

rest_of_power : (i j y b : ℕ) → i ≤ j → 2 ^ j * y ≡ b → 2 ^ i * (2 ^ (j - i) * y) ≡ b
rest_of_power i j y b h e =
    let sum : i + (j - i) ≡ j = omega arith in
    let power : 2 ^ j ≡ 2 ^ i * 2 ^ (j - i) = ap (λ (k : ℕ). 2 ^ k) (sym sum) ∙ pow-add 2 i (j - i) in
    omega (arith, ap (λ (k : ℕ). k * y) power)

shared_power : (a b i j x y g : ℕ) → i ≤ j → 2 ^ i * x ≡ a → 2 ^ j * y ≡ b → x % 2 ≡ 1 → IsGcd x y g → IsGcd a b (2 ^ i * g)
shared_power a b i j x y g h ea eb odd is =
    let split : 2 ^ i * (2 ^ (j - i) * y) ≡ b = rest_of_power i j y b h eb in
    let more : IsGcd x (2 ^ (j - i) * y) g = IsGcd-swap (2 ^ (j - i) * y) x g (gcd_with_power (j - i) y x g odd (IsGcd-swap x y g is)) in
    subst (λ (z : ℕ). IsGcd a z (2 ^ i * g)) split
    (subst (λ (z : ℕ). IsGcd z (2 ^ i * (2 ^ (j - i) * y)) (2 ^ i * g)) ea (gcd_scaled (2 ^ i) x (2 ^ (j - i) * y) g (pow_pos i) more))

whole_by : (a b i j x y g : ℕ) → 2 ^ i * x ≡ a → 2 ^ j * y ≡ b → x % 2 ≡ 1 → y % 2 ≡ 1 → IsGcd x y g → (i < j) ⊎ (j ≤ i) → IsGcd a b (2 ^ min i j * g)
whole_by a b i j x y g ea eb ox oy is (inl h) =
    let e : min i j ≡ i = omega arith in
    subst (λ (z : ℕ). IsGcd a b (2 ^ z * g)) (sym e) (shared_power a b i j x y g (omega arith) ea eb ox is)
whole_by a b i j x y g ea eb ox oy is (inr h) =
    let e : min i j ≡ j = omega arith in
    subst (λ (z : ℕ). IsGcd a b (2 ^ z * g)) (sym e) (IsGcd-swap b a (2 ^ j * g) (shared_power b a j i y x g h eb ea oy (IsGcd-swap x y g is)))

-- the greatest common divisor from that of the odd parts
pub gcd_of_odd_parts : (a b i j x y g : ℕ) → 2 ^ i * x ≡ a → 2 ^ j * y ≡ b → x % 2 ≡ 1 → y % 2 ≡ 1 → IsGcd x y g → IsGcd a b (2 ^ min i j * g)
gcd_of_odd_parts a b i j x y g ea eb ox oy is = whole_by a b i j x y g ea eb ox oy is (cases_lt i j)

-- a difference without its power of 2 has the same common divisors
pub gcd_by_difference : (a b k x g : ℕ) → b ≤ a → 2 ^ k * x ≡ a - b → b % 2 ≡ 1 → IsGcd x b g → IsGcd a b g
gcd_by_difference a b k x g h e odd is = IsGcd-from_sub a b g h (subst (λ (z : ℕ). IsGcd z b g) e (gcd_with_power k x b g odd is))

pub min_odd : (x y less : ℕ) → less ≡ min x y → x % 2 ≡ 1 → y % 2 ≡ 1 → less % 2 ≡ 1
min_odd x y less e ox oy = grind arith

ordered_by : (x y less great g : ℕ) → less ≡ min x y → great ≡ max x y → IsGcd great less g → (x < y) ⊎ (y ≤ x) → IsGcd x y g
ordered_by x y less great g el eg is (inl h) =
    let few : less ≡ x = omega arith in
    let many : great ≡ y = omega arith in
    IsGcd-swap y x g (subst (λ (n : ℕ). IsGcd y n g) few (subst (λ (n : ℕ). IsGcd n less g) many is))
ordered_by x y less great g el eg is (inr h) =
    let few : less ≡ y = omega arith in
    let many : great ≡ x = omega arith in
    subst (λ (n : ℕ). IsGcd x n g) few (subst (λ (n : ℕ). IsGcd n less g) many is)

-- the greater number and the lesser one
pub gcd_ordered : (x y less great g : ℕ) → less ≡ min x y → great ≡ max x y → IsGcd great less g → IsGcd x y g
gcd_ordered x y less great g el eg is = ordered_by x y less great g el eg is (cases_lt x y)

-- one turn: the lesser number, and the difference without its power of 2
pub gcd_turn : (x y less great k z g : ℕ) → less ≡ min x y → great ≡ max x y → 2 ^ k * z ≡ great - less → less % 2 ≡ 1 → IsGcd z less g → IsGcd x y g
gcd_turn x y less great k z g el eg e odd is = gcd_ordered x y less great g el eg (gcd_by_difference great less k z g (omega arith) e odd is)

pub gcd_same : (x y : ℕ) → x ≡ y → IsGcd x y x
gcd_same x y e = subst (λ (n : ℕ). IsGcd x n x) e (dvd_refl x, dvd_refl x, λ d h k. h)

-- a divisor of a number below n is one
pub gcd_kept : (a b g h n : ℕ) → 0 < a → a < n → IsGcd a b g → h ≡ g → IsGcd a b (h % n)
gcd_kept a b g h n some small is e =
    let below : g ≤ a = le_of_dvd some is.0 in
    subst (λ (n : ℕ). IsGcd a b n) (sym (mod-eq_of_lt (omega arith) ∙ e)) is

-- ---- the power of 2 in a number

no_low_bits : (n t : ℕ) → ((i : ℕ) → i < t → bit_at n i ≡ 0) → n % 2 ^ t ≡ 0
no_low_bits n zero zeros = omega arith
no_low_bits n (suc t) zeros =
    let one : 1 + t ≡ suc t = omega arith in
    let split : n % 2 ^ suc t ≡ (n / 2 ^ t % 2 ^ 1) * 2 ^ t + n % 2 ^ t = ap (λ (k : ℕ). n % 2 ^ k) (sym one) ∙ mod-pow-add n 1 t in
    let bit : n / 2 ^ t % 2 ≡ 0 = zeros t (omega arith) in
    let rest : n % 2 ^ t ≡ 0 = no_low_bits n t (λ i h. zeros i (omega arith)) in
    let none : (n / 2 ^ t % 2 ^ 1) * 2 ^ t ≡ 0 = ap (λ (k : ℕ). k * 2 ^ t) bit ∙ omega arith in
    omega arith

pub record IsOddPart (w : Width) (n t : ℕ) : Type 0 where
  pub whole : 2 ^ t * (n / 2 ^ t) ≡ n
  pub odd : n / 2 ^ t % 2 ≡ 1
  pub bound : t < bits w

pub odd_part_is : (w : Width) (n t : ℕ) → t ≡ trailing_zeros w n → 0 < n → n < 2 ^ bits w → IsOddPart w n t
odd_part_is w n t e some small =
    let place = bit_at-trailing_zeros w n some small in
    let zeros : n % 2 ^ t ≡ 0 = no_low_bits n t (λ i h. place.2 i (subst (λ (k : ℕ). i < k) e h)) in
    record {
      whole = let all = div-add-mod n (2 ^ t) in omega arith;
      odd = subst (λ (k : ℕ). bit_at n k ≡ 1) (sym e) place.1;
      bound = subst (λ (k : ℕ). k < bits w) (sym e) place.0;
    }

half_of_word : (t : ℕ) → t < 64 → 2 ^ t * (2 * 2 ^ (63 - t)) ≡ 2 ^ 64
half_of_word t below =
    let sum : t + (1 + (63 - t)) ≡ 64 = omega arith in
    ap (λ (z : ℕ). 2 ^ t * z) (sym (pow-add 2 1 (63 - t))) ∙ sym (pow-add 2 t (1 + (63 - t))) ∙ ap (λ (z : ℕ). 2 ^ z) sum

-- a number has the power of 2 of what it lacks to 2^64
pub odd_of_rest : (n m t : ℕ) → 0 < n → m + n ≡ 2 ^ 64 → IsOddPart w64 m t → IsOddPart w64 n t
odd_of_rest n m t some e is =
    let q : ℕ = m / 2 ^ t in
    let h : ℕ = 2 ^ (63 - t) in
    let split : 2 ^ t * (2 * h) ≡ 2 ^ 64 = half_of_word t is.bound in
    let whole : 2 ^ t * q ≡ m = is.whole in
    let odd : q % 2 ≡ 1 = is.odd in
    let less : q < 2 * h = lt_of_mul-lt-mul_left (2 ^ t) (omega arith) in
    let all : 2 ^ t * (2 * h - q) ≡ n = mul-sub (2 ^ t) (2 * h) q ∙ omega arith in
    let quotient : n / 2 ^ t ≡ 2 * h - q = ap (λ (z : ℕ). z / 2 ^ t) (sym all) ∙ mul-div_cancel_left (2 * h - q) (pow_pos t) in
    record {
      whole = ap (λ (z : ℕ). 2 ^ t * z) quotient ∙ all;
      odd = omega arith;
      bound = is.bound;
    }

difference_by : (x y great less w t : ℕ) → x < 2 ^ 64 → y < 2 ^ 64 → x ≢ y → great ≡ max x y → less ≡ min x y → w ≡ (x + (2 ^ 64 - y)) % 2 ^ 64 → t ≡ trailing_zeros w64 w → (x < y) ⊎ (y ≤ x) → IsOddPart w64 (great - less) t
difference_by x y great less w t hx hy other eg el ew et (inl h) =
    let rest : w ≡ x + (2 ^ 64 - y) = ew ∙ mod-eq_of_lt (omega arith) in odd_of_rest (great - less) w t (omega arith) (omega arith) (odd_part_is w64 w t et (omega arith) (omega arith))
difference_by x y great less w t hx hy other eg el ew et (inr h) =
    let same : w ≡ great - less = omega arith in
    let some : 0 < w = omega arith in
    subst (λ (n : ℕ). IsOddPart w64 n t) same (odd_part_is w64 w t et some (omega arith))

-- the difference of two words has the power of 2 of their wrapping difference
pub odd_part_of_difference : (x y great less w t : ℕ) → x < 2 ^ 64 → y < 2 ^ 64 → x ≢ y → great ≡ max x y → less ≡ min x y → w ≡ (x + (2 ^ 64 - y)) % 2 ^ 64 → t ≡ trailing_zeros w64 w → IsOddPart w64 (great - less) t
odd_part_of_difference x y great less w t hx hy other eg el ew et = difference_by x y great less w t hx hy other eg el ew et (cases_lt x y)

-- a number whose low word is 0 has the odd part of its high word
pub odd_of_high : (n h k r : ℕ) → n % 2 ^ 64 ≡ 0 → h ≡ n / 2 ^ 64 → 2 ^ k * r ≡ h → 2 ^ (64 + k) * r ≡ n
odd_of_high n h k r low eh e =
    let whole : 2 ^ 64 * (n / 2 ^ 64) + n % 2 ^ 64 ≡ n = div-add-mod n (2 ^ 64) in
    ap (λ (z : ℕ). z * r) (pow-add 2 64 k) ∙ omega (arith, ap (λ (z : ℕ). 2 ^ 64 * z) e)

even_and_odd : (a h o : ℕ) → o % 2 ≡ 1 → (2 * (a * h) + o) % 2 ≡ 1
even_and_odd a h o odd = omega arith

-- else it has the power of 2 of its low word
pub odd_by_low : (n low t : ℕ) → low ≡ n % 2 ^ 64 → IsOddPart w64 low t → (n / 2 ^ t % 2 ≡ 1) × (2 ^ t * (n / 2 ^ t) ≡ n)
odd_by_low n low t e is =
    let whole : 2 ^ 64 * (n / 2 ^ 64) + n % 2 ^ 64 ≡ n = div-add-mod n (2 ^ 64) in
    let below : t < 64 = is.bound in
    let split : 2 ^ t * (2 * 2 ^ (63 - t)) ≡ 2 ^ 64 = half_of_word t below in
    let all : 2 ^ t * (2 * (2 ^ (63 - t) * (n / 2 ^ 64)) + low / 2 ^ t) ≡ n = omega (arith, is.whole, ap (λ (z : ℕ). z * (n / 2 ^ 64)) split) in
    let quotient : n / 2 ^ t ≡ 2 * (2 ^ (63 - t) * (n / 2 ^ 64)) + low / 2 ^ t = ap (λ (z : ℕ). z / 2 ^ t) (sym all) ∙ mul-div_cancel_left (2 * (2 ^ (63 - t) * (n / 2 ^ 64)) + low / 2 ^ t) (pow_pos t) in (
      ap (λ (z : ℕ). z % 2) quotient ∙ even_and_odd (2 ^ (63 - t)) (n / 2 ^ 64) (low / 2 ^ t) is.odd,
      ap (λ (z : ℕ). 2 ^ t * z) quotient ∙ all,
    )
