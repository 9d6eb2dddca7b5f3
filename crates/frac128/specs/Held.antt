-- Which numbers a fraction holds.
use Rattle.std.specs.Prelude.{◌≡◌, ℕ, ℤ, pos, negsuc, neg_ℤ, zero, suc, ◌^◌, Bool, ◌&&◌, nat_lt, unsigned_abs, IsTrue, refl}
use Rattle.std.proofs.Common.{◌<◌, sym, subst}
use Rattle.std.proofs.Math.Dec.{lit≤}
use Rattle.std.proofs.Math.Nat.{le_trans}
use Rattle.std.proofs.lemmas.Bool.{and_parts, ltb-true}
use Rattle.exact_field.specs.Field.{IsSmall}
use Rattle.exact_field.specs.Rational.{ℚ, zero_ℚ, one_ℚ, neg_ℚ, whole}

-- the numerator's magnitude and the denominator are below 2^120
abbrev pub is_held : ℚ → Bool
is_held q = nat_lt (unsigned_abs q.num) (2 ^ 120) && nat_lt q.den (2 ^ 120)

-- the numerator's magnitude and the denominator are below 2^7
abbrev pub is_tiny : ℚ → Bool
is_tiny q = nat_lt (unsigned_abs q.num) (2 ^ 7) && nat_lt q.den (2 ^ 7)

-- the numerator's magnitude and the denominator are below 2^59
pub record IsShort (q : ℚ) : Type 0 where
  pub num : unsigned_abs q.num < 2 ^ 59
  pub den : q.den < 2 ^ 59

-- the numerator's magnitude and the denominator are below 2^30
pub record IsNarrow (q : ℚ) : Type 0 where
  pub num : unsigned_abs q.num < 2 ^ 30
  pub den : q.den < 2 ^ 30

-- 0 and 1 are held, and tiny
pub held_zero : IsTrue (is_held zero_ℚ)
unfolding whole
held_zero = refl

pub held_one : IsTrue (is_held one_ℚ)
unfolding whole
held_one = refl

pub tiny_zero : IsTrue (is_tiny zero_ℚ)
unfolding whole
tiny_zero = refl

pub tiny_one : IsTrue (is_tiny one_ℚ)
unfolding whole
tiny_one = refl

-- a whole number and its negative have one magnitude
pub size-neg : (n : ℤ) → unsigned_abs (neg_ℤ n) ≡ unsigned_abs n
size-neg (pos zero) = refl
size-neg (pos (suc n)) = refl
size-neg (negsuc n) = refl

-- the negative of a number that is held is held, and that of a tiny one is tiny
pub held_neg : (q : ℚ) → IsTrue (is_held q) → IsTrue (is_held (neg_ℚ q))
unfolding neg_ℚ
held_neg q h = subst (λ (n : ℕ). IsTrue (nat_lt n (2 ^ 120) && nat_lt q.den (2 ^ 120))) (sym (size-neg q.num)) h

pub tiny_neg : (q : ℚ) → IsTrue (is_tiny q) → IsTrue (is_tiny (neg_ℚ q))
unfolding neg_ℚ
tiny_neg q h = subst (λ (n : ℕ). IsTrue (nat_lt n (2 ^ 7) && nat_lt q.den (2 ^ 7))) (sym (size-neg q.num)) h

-- numbers that are held are small, and so are tiny ones
pub held_small : (q : ℚ) → IsTrue (is_held q) → IsSmall q
held_small q h =
    let parts = and_parts (nat_lt (unsigned_abs q.num) (2 ^ 120)) (nat_lt q.den (2 ^ 120)) h in
    record { num_small = ltb-true (unsigned_abs q.num) (2 ^ 120) parts.0; den_small = ltb-true q.den (2 ^ 120) parts.1 }

below_more : (n : ℕ) → n < 2 ^ 7 → n < 2 ^ 120
below_more n h = le_trans h (lit≤ tt)

pub tiny_small : (q : ℚ) → IsTrue (is_tiny q) → IsSmall q
tiny_small q h =
    let parts = and_parts (nat_lt (unsigned_abs q.num) (2 ^ 7)) (nat_lt q.den (2 ^ 7)) h in
    record {
      num_small = below_more (unsigned_abs q.num) (ltb-true (unsigned_abs q.num) (2 ^ 7) parts.0);
      den_small = below_more q.den (ltb-true q.den (2 ^ 7) parts.1);
    }
