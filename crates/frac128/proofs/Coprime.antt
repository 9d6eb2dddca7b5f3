-- Numbers with no common divisor but 1, and what divides a sum of whole numbers.
use Rattle.std.specs.Prelude.{◌≡◌, ℕ, ℤ, ◌+ℤ◌, ◌*◌, ◌+◌, ◌-◌, ◌<◌, ◌≤◌, ◌⊎◌, unsigned_abs}
use Rattle.std.specs.Int.{IsGcd, ◌∣◌}
use Rattle.std.proofs.Common.{arith, sym, subst, inl, inr}
use Rattle.std.proofs.Math.Nat.{one-dvd, dvd_trans, dvd_refl, dvd-add, dvd-sub, mul-dvd-mul_left, dvd_of_mul-dvd-mul_left, mul_comm, mul-one}
use Rattle.std.proofs.lemmas.Nat.Gcd.{IsGcd-swap}
use Rattle.std.proofs.lemmas.Int.{ints}
use Rattle.exact_field.proofs.RationalLaws.{divides_other_factor}

-- divisors of numbers with no common divisor have none
pub coprime_divisors : (a b c d : ℕ) → IsGcd a b 1 → c ∣ a → d ∣ b → IsGcd c d 1
coprime_divisors a b c d h ca db = (one-dvd c, one-dvd d, λ e ec ed. h.2 e (dvd_trans e ec ca) (dvd_trans e ed db))

pub coprime_product : (a b c : ℕ) → IsGcd a b 1 → IsGcd a c 1 → IsGcd a (b * c) 1
coprime_product a b c ab ac = (
  one-dvd a,
  one-dvd (b * c),
  λ e ea ebc.
      ac.2 e ea
      (divides_other_factor b e c (IsGcd-swap e b 1 (coprime_divisors a b e b ab ea (dvd_refl b))) (subst (λ (n : ℕ). e ∣ n) (mul_comm b c) ebc)),
)

pub coprime_products : (a b c d : ℕ) → IsGcd a c 1 → IsGcd a d 1 → IsGcd b c 1 → IsGcd b d 1 → IsGcd (a * b) (c * d) 1
coprime_products a b c d ac ad bc bd =
    let left : IsGcd a (c * d) 1 = coprime_product a c d ac ad in
    let right : IsGcd b (c * d) 1 = coprime_product b c d bc bd in
    IsGcd-swap (c * d) (a * b) 1 (coprime_product (c * d) a b (IsGcd-swap a (c * d) 1 left) (IsGcd-swap b (c * d) 1 right))

-- numbers divided by their greatest common divisor
pub coprime_quotients : (a b g x y : ℕ) → IsGcd a b g → 0 < g → g * x ≡ a → g * y ≡ b → IsGcd x y 1
coprime_quotients a b g x y is h ea eb = (
  one-dvd x,
  one-dvd y,
  λ e ex ey.
      dvd_of_mul-dvd-mul_left e h
      (subst (λ (n : ℕ). g * e ∣ n) (sym (mul-one g))
      (is.2 (g * e)
      (subst (λ (n : ℕ). g * e ∣ n) ea (mul-dvd-mul_left e g ex))
      (subst (λ (n : ℕ). g * e ∣ n) eb (mul-dvd-mul_left e g ey)))),
)

-- the magnitude of a summand is the sum or the difference of those of the sum and of the other summand
abs_cases : (p q : ℤ) → (unsigned_abs p ≡ unsigned_abs (p +ℤ q) + unsigned_abs q) ⊎ ((unsigned_abs p ≡ unsigned_abs (p +ℤ q) - unsigned_abs q) ⊎ (unsigned_abs p ≡ unsigned_abs q - unsigned_abs (p +ℤ q)))
abs_cases p q = grind (arith, ints)

divides_case : (e a s b : ℕ) → e ∣ s → e ∣ b → (a ≡ s + b) ⊎ ((a ≡ s - b) ⊎ (a ≡ b - s)) → e ∣ a
divides_case e a s b h k (inl same) = subst (λ (n : ℕ). e ∣ n) (sym same) (dvd-add e h k)
divides_case e a s b h k (inr (inl same)) = subst (λ (n : ℕ). e ∣ n) (sym same) (dvd-sub e h k)
divides_case e a s b h k (inr (inr same)) = subst (λ (n : ℕ). e ∣ n) (sym same) (dvd-sub e k h)

-- what divides a sum and one summand divides the other
pub divides_summand : (e : ℕ) (p q : ℤ) → e ∣ unsigned_abs (p +ℤ q) → e ∣ unsigned_abs q → e ∣ unsigned_abs p
divides_summand e p q h k = divides_case e (unsigned_abs p) (unsigned_abs (p +ℤ q)) (unsigned_abs q) h k (abs_cases p q)

pub abs_sum : (p q : ℤ) → unsigned_abs (p +ℤ q) ≤ unsigned_abs p + unsigned_abs q
abs_sum p q = grind (arith, ints)

pub abs_summand : (p q : ℤ) → unsigned_abs p ≤ unsigned_abs (p +ℤ q) + unsigned_abs q
abs_summand p q = grind (arith, ints)
