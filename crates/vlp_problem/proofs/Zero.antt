-- The test whether a number is 0.
use Rattle.std.proofs.Common.{◌≡◌, ℕ, ℤ, pos, negsuc, true, subst, sym, ap, eqb-true, arith, ◌==◌}
use Rattle.std.specs.Prelude.{unsigned_abs}
use Rattle.std.specs.Int.{◌∣◌}
use Rattle.std.proofs.Math.Nat.{eq-one_of_dvd-one, dvd_refl}
use Rattle.std.proofs.lemmas.Nat.Gcd.{dvd-zero}
use Rattle.exact_field.specs.Rational.{ℚ, whole, zero_ℚ, same_parts}
use Rattle.frac128.specs.Sparse.{is_zero}

pub abs_zero : (z : ℤ) → unsigned_abs z ≡ 0 → z ≡ pos 0
abs_zero (pos n) h = ap pos h
abs_zero (negsuc n) h = absurd (omega arith)

-- a number with the numerator 0 is 0
pub zero_is : (q : ℚ) → is_zero q ≡ true → q ≡ zero_ℚ
unfolding whole
zero_is q h =
    let none : unsigned_abs q.num ≡ 0 = eqb-true (unsigned_abs q.num) 0 h in
    let all : q.den ∣ unsigned_abs q.num = subst (λ (n : ℕ). q.den ∣ n) (sym none) (dvd-zero q.den) in
    same_parts q (whole (pos 0)) (abs_zero q.num none) (eq-one_of_dvd-one (q.lowest.2 q.den all (dvd_refl q.den)))
