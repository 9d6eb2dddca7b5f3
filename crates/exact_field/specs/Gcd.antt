-- The greatest common divisor of two natural numbers, by Euclid, and what dividing by it leaves.
use Rattle.std.specs.Prelude.{ℕ, zero, suc, ◌%◌, ◌/◌, ◌<◌, ◌*◌, ◌≡◌, refl}
use Rattle.std.specs.Int.{IsGcd, ◌∣◌}
use Rattle.std.proofs.Common.{arith, subst, sym, zero-mul}
use Rattle.std.proofs.Math.Nat.{one-dvd, mul-dvd-mul_left, dvd_of_mul-dvd-mul_left, mul-div_cancel', mul-one}
use Rattle.std.proofs.lemmas.Nat.Gcd.{IsGcd-from_zero, IsGcd-from_mod}

-- Euclid's steps, at most `fuel` of them
abbrev pub gcd_by : (fuel a b : ℕ) → ℕ
gcd_by zero a b = a
gcd_by (suc fuel) a zero = a
gcd_by (suc fuel) a (suc b) = gcd_by fuel (suc b) (a % suc b)

-- the greatest common divisor: the second number falls at each step
unfoldable pub gcd : ℕ → ℕ → ℕ
gcd a b = gcd_by (suc b) a b

gcd_by_is : (fuel a b : ℕ) → b < fuel → IsGcd a b (gcd_by fuel a b)
gcd_by_is zero a b h = absurd (omega arith)
gcd_by_is (suc fuel) a zero h = IsGcd-from_zero a zero refl
gcd_by_is (suc fuel) a (suc b) h = IsGcd-from_mod a (suc b) _ (gcd_by_is fuel (suc b) (a % suc b) (omega arith))

-- what Euclid's steps end with is the greatest common divisor
pub gcd_is : (a b : ℕ) → IsGcd a b (gcd a b)
unfolding gcd
gcd_is a b = gcd_by_is (suc b) a b (omega arith)

positive_left : (a b : ℕ) → 0 < a * b → 0 < a
positive_left zero b h = subst (λ (n : ℕ). 0 < n) (zero-mul b) h
positive_left (suc a) b h = omega arith

positive_right : (a b : ℕ) → 0 < a * b → 0 < b
positive_right a zero h = subst (λ (n : ℕ). 0 < n) (zero-mul zero) (omega arith)
positive_right a (suc b) h = omega arith

-- the number that is divided, from its quotient
product_of_quotient : (a b g : ℕ) → IsGcd a b g → (g * (a / g) ≡ a) × (g * (b / g) ≡ b)
product_of_quotient a b g h = (mul-div_cancel' g h.0, mul-div_cancel' g h.1)

-- where the second number is positive, so is the greatest common divisor,
pub gcd-positive : (a b : ℕ) → 0 < b → 0 < gcd a b
gcd-positive a b h =
    let whole = product_of_quotient a b (gcd a b) (gcd_is a b) in
    positive_left (gcd a b) (b / gcd a b) (subst (λ (n : ℕ). 0 < n) (sym whole.1) h)

-- and the second number divided by it
pub quotient-positive : (a b : ℕ) → 0 < b → 0 < b / gcd a b
quotient-positive a b h =
    let whole = product_of_quotient a b (gcd a b) (gcd_is a b) in
    positive_right (gcd a b) (b / gcd a b) (subst (λ (n : ℕ). 0 < n) (sym whole.1) h)

-- numbers divided by their greatest common divisor have no other common divisor than 1
pub quotients-coprime : (a b : ℕ) → 0 < b → IsGcd (a / gcd a b) (b / gcd a b) 1
quotients-coprime a b h =
    let g : ℕ = gcd a b in
    let is = gcd_is a b in
    let whole = product_of_quotient a b g is in
    let greatest : (d : ℕ) → d ∣ a / g → d ∣ b / g → d ∣ 1 =
    λ d left right.
    dvd_of_mul-dvd-mul_left d (gcd-positive a b h)
    (subst (λ (n : ℕ). g * d ∣ n) (sym (mul-one g))
    (is.2 (g * d)
    (subst (λ (n : ℕ). g * d ∣ n) whole.0 (mul-dvd-mul_left d g left))
    (subst (λ (n : ℕ). g * d ∣ n) whole.1 (mul-dvd-mul_left d g right)))) in
    (one-dvd (a / g), one-dvd (b / g), greatest)
