-- The rational numbers, each in lowest terms, so that equal numbers are one value; their sum, product,
-- negation and order. Each operation is opaque: proofs cite its laws.
use Rattle.std.specs.Prelude.{ℕ, zero, suc, ◌*◌, ◌/◌, ◌<◌, ◌≡◌, refl, ℤ, pos, negsuc, ◌+ℤ◌, ◌*ℤ◌, neg_ℤ, unsigned_abs, int_le, Bool, not, IsTrue}
use Rattle.std.specs.Int.{IsGcd}
use Rattle.std.specs.Coded.{Coded, coded×, coded_ℤ, coded_ℕ, le_prop}
use Rattle.std.proofs.Common.{arith, subst, sym}
use Rattle.std.proofs.Math.Nat.{one-dvd}
use mathlib.Core.HLevel.{is_prop→PathP}
use base.Stored.{coded_via}
use Rattle.exact_field.specs.Gcd.{gcd, quotient-positive, quotients-coprime}

-- a numerator over a positive denominator, in lowest terms
pub record ℚ : Type 0 where
  pub num : ℤ
  pub den : ℕ
  pub positive : 0 < den
  pub lowest : IsGcd (unsigned_abs num) den 1

-- numbers with one numerator and one denominator are one
pub same_parts : (p q : ℚ) → p.num ≡ q.num → p.den ≡ q.den → p ≡ q
same_parts p q n d = λ i.
    record {
      num = n i;
      den = d i;
      positive = is_prop→PathP (λ j. 0 < d j) (λ j. le_prop) p.positive q.positive i;
      lowest = is_prop→PathP (λ j. IsGcd (unsigned_abs (n j)) (d j) 1) (λ j. hlevel) p.lowest q.lowest i;
    }

-- a number is stored as its numerator and its denominator
abbrev pub coded_ℚ : Coded ℚ
coded_ℚ = coded_via (coded× coded_ℤ coded_ℕ) (λ q. (q.num, q.den)) (λ p q e. same_parts p q (λ i. (e i).0) (λ i. (e i).1))

-- a successor is positive
pub suc-positive : (n : ℕ) → 0 < suc n
suc-positive n = omega arith

-- the greatest common divisor of a number and 1 is 1
pub coprime-one : (n : ℕ) → IsGcd n 1 1
coprime-one n = (one-dvd n, one-dvd 1, λ d _ right. right)

unsigned_abs-neg : (n : ℕ) → unsigned_abs (neg_ℤ (pos n)) ≡ n
unsigned_abs-neg zero = refl
unsigned_abs-neg (suc n) = refl

-- the magnitude of a whole number stays when the sign changes
pub lowest_negated : (n : ℤ) (d : ℕ) → IsGcd (unsigned_abs n) d 1 → IsGcd (unsigned_abs (neg_ℤ n)) d 1
lowest_negated (pos n) d h = subst (λ (m : ℕ). IsGcd m d 1) (sym (unsigned_abs-neg n)) h
lowest_negated (negsuc n) d h = h

-- a whole number over 1
unfoldable pub whole : ℤ → ℚ
whole n = record { num = n; den = 1; positive = suc-positive 0; lowest = coprime-one (unsigned_abs n) }

-- the numbers 0 and 1
abbrev pub zero_ℚ : ℚ
zero_ℚ = whole (pos 0)

abbrev pub one_ℚ : ℚ
one_ℚ = whole (pos 1)

-- a whole number divided by a natural number that divides it
abbrev pub exact_quotient : ℤ → ℕ → ℤ
exact_quotient (pos n) g = pos (n / g)
exact_quotient (negsuc n) g = neg_ℤ (pos (suc n / g))

-- a numerator and a positive denominator, divided by their greatest common divisor, are in lowest
-- terms
pub lowest_quotients : (n : ℤ) (d : ℕ) → 0 < d → IsGcd (unsigned_abs (exact_quotient n (gcd (unsigned_abs n) d))) (d / gcd (unsigned_abs n) d) 1
lowest_quotients (pos n) d h = quotients-coprime n d h
lowest_quotients (negsuc n) d h =
    subst (λ (m : ℕ). IsGcd m (d / gcd (suc n) d) 1) (sym (unsigned_abs-neg (suc n / gcd (suc n) d))) (quotients-coprime (suc n) d h)

-- the number n / d, for a positive d; 0 where d is 0
unfoldable pub fraction : ℤ → ℕ → ℚ
fraction n zero = zero_ℚ
fraction n (suc d) =
    record {
      num = exact_quotient n (gcd (unsigned_abs n) (suc d));
      den = suc d / gcd (unsigned_abs n) (suc d);
      positive = quotient-positive (unsigned_abs n) (suc d) (suc-positive d);
      lowest = lowest_quotients n (suc d) (suc-positive d);
    }

infixl 60 ◌+ℚ◌ ◌-ℚ◌
infixl 70 ◌*ℚ◌ ◌/ℚ◌
infix 50 ◌≤ℚ◌ ◌<ℚ◌
-- the sum of the cross products, over the product of the denominators
unfoldable pub ◌+ℚ◌ : ℚ → ℚ → ℚ
p +ℚ q = fraction (p.num *ℤ pos q.den +ℤ q.num *ℤ pos p.den) (p.den * q.den)

-- the product of the numerators, over that of the denominators
unfoldable pub ◌*ℚ◌ : ℚ → ℚ → ℚ
p *ℚ q = fraction (p.num *ℤ q.num) (p.den * q.den)

-- the numerator with the other sign
unfoldable pub neg_ℚ : ℚ → ℚ
neg_ℚ p = record { num = neg_ℤ p.num; den = p.den; positive = p.positive; lowest = lowest_negated p.num p.den p.lowest }

-- the difference
abbrev pub ◌-ℚ◌ : ℚ → ℚ → ℚ
p -ℚ q = p +ℚ neg_ℚ q

-- the second number with the sign of the first
abbrev pub signed_den : ℤ → ℕ → ℤ
signed_den (pos n) d = pos d
signed_den (negsuc n) d = neg_ℤ (pos d)

-- the reciprocal, with the sign in the numerator; 0 for 0
unfoldable pub inverse_ℚ : ℚ → ℚ
inverse_ℚ p = fraction (signed_den p.num p.den) (unsigned_abs p.num)

-- p divided by a q that is not 0
abbrev pub ◌/ℚ◌ : ℚ → ℚ → ℚ
p /ℚ q = p *ℚ inverse_ℚ q

-- whether p is at most q, by the cross products
unfoldable pub le_ℚ : ℚ → ℚ → Bool
le_ℚ p q = int_le (p.num *ℤ pos q.den) (q.num *ℤ pos p.den)

-- whether p is less than q
abbrev pub lt_ℚ : ℚ → ℚ → Bool
lt_ℚ p q = not (le_ℚ q p)

-- p is at most q
abbrev pub ◌≤ℚ◌ : ℚ → ℚ → Type 0
p ≤ℚ q = IsTrue (le_ℚ p q)

-- p is less than q
abbrev pub ◌<ℚ◌ : ℚ → ℚ → Type 0
p <ℚ q = IsTrue (lt_ℚ p q)
