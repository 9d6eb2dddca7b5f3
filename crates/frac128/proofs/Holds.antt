-- What the sizes of the parts say of whether a number is held.
use Rattle.std.specs.Prelude.{◌≡◌, ℕ, zero, suc, ◌^◌, ◌<◌, ◌≤◌, unsigned_abs, Bool, true, false, ◌&&◌, nat_lt, IsTrue, IsFalse, refl}
use Rattle.std.proofs.Common.{arith}
use Rattle.std.proofs.lemmas.Bool.{and_parts, ltb-true}
use Rattle.std.proofs.lemmas.Bool.Decides.{nat_tests}
use Rattle.exact_field.specs.Rational.{ℚ}
use Rattle.frac128.specs.Held.{is_held, is_tiny}
use Rattle.frac128.specs.Signed.{signed}

-- ---- from the sizes of the parts

both_below : (m n k : ℕ) → m < k → n < k → IsTrue (nat_lt m k && nat_lt n k)
both_below m n k h i = grind (arith, nat_tests)

first_not_below : (m n k : ℕ) → k ≤ m → IsFalse (nat_lt m k && nat_lt n k)
first_not_below m n k h = grind (arith, nat_tests)

second_not_below : (m n k : ℕ) → k ≤ n → IsFalse (nat_lt m k && nat_lt n k)
second_not_below m n k h = grind (arith, nat_tests)

pub held_by_sizes : (q : ℚ) → unsigned_abs q.num < 2 ^ 120 → q.den < 2 ^ 120 → IsTrue (is_held q)
held_by_sizes q h i = both_below (unsigned_abs q.num) q.den (2 ^ 120) h i

pub wide_by_num : (q : ℚ) → 2 ^ 120 ≤ unsigned_abs q.num → IsFalse (is_held q)
wide_by_num q h = first_not_below (unsigned_abs q.num) q.den (2 ^ 120) h

pub wide_by_den : (q : ℚ) → 2 ^ 120 ≤ q.den → IsFalse (is_held q)
wide_by_den q h = second_not_below (unsigned_abs q.num) q.den (2 ^ 120) h

-- ---- by sign and magnitude

pub size-signed : (b : Bool) (n : ℕ) → unsigned_abs (signed b n) ≡ n
size-signed true zero = refl
size-signed true (suc n) = refl
size-signed false n = refl

-- ---- the least type

pub record HasTinyParts (q : ℚ) : Type 0 where
  pub num : unsigned_abs q.num < 2 ^ 7
  pub den : q.den < 2 ^ 7

pub tiny_parts : (q : ℚ) → IsTrue (is_tiny q) → HasTinyParts q
tiny_parts q h =
    let parts = and_parts (nat_lt (unsigned_abs q.num) (2 ^ 7)) (nat_lt q.den (2 ^ 7)) h in
    record { num = ltb-true (unsigned_abs q.num) (2 ^ 7) parts.0; den = ltb-true q.den (2 ^ 7) parts.1 }
