-- Powers of ten.
use Rattle.std.proofs.Common.{◌≡◌, refl, ℕ, ◌^◌, ◌<◌, ◌≤◌, ℤ, pos, negsuc, ◌*ℤ◌, ◌<ℤ◌, ◌≤ℤ◌, arith, ap, ◌∙◌}
use Rattle.std.specs.Int.{w128}
use Rattle.std.specs.Prelude.{unsigned_abs}
use Rattle.std.proofs.Math.Nat.{pow-le-pow_right}
use Rattle.std.proofs.lemmas.Int.{ints}
use Rattle.exact_field.specs.Rational.{whole, fraction}
use Rattle.std.proofs.Common.{FitsSigned, Bool, true, false, not, nat_lt, ◌==◌, List, length}
use Rattle.std.specs.Prelude.{int_le}
use lib.Dec.{T}
use Rattle.std.specs.Str.Parse.{digits_value}
use Rattle.std.proofs.lemmas.Bool.{and_parts, and_from, ltb-true, le-ltb, cond-false, ne_eqb}
use Rattle.frac128.specs.Signed.{signed}
use Rattle.frac128.specs.Held.{is_held}
use Rattle.vlp_reader.specs.Number.{scaled, in_range, number_at, held_number}
use Rattle.vlp_reader.proofs.Digits.{not_true}

pub power_small : (k : ℕ) → k ≤ 36 → 10 ^ k ≤ 10 ^ 36
power_small k h = pow-le-pow_right {n = 10} (omega arith) h

pub scaled_below : (m power : ℤ) → power <ℤ pos 0 → scaled m power ≡ fraction m (10 ^ unsigned_abs power)
scaled_below m (pos k) h = absurd (omega (arith, ints))
scaled_below m (negsuc k) h = ap (λ (n : ℕ). fraction m (10 ^ n)) (omega arith)

pub scaled_from_zero : (m power : ℤ) → pos 0 ≤ℤ power → scaled m power ≡ whole (m *ℤ pos (10 ^ unsigned_abs power))
scaled_from_zero m (pos k) h = refl
scaled_from_zero m (negsuc k) h = absurd (omega (arith, ints))

pub power_positive : (k : ℕ) → 0 < 10 ^ k
power_positive k = let zero_k : 0 ≤ k = omega arith in let more : 10 ^ 0 ≤ 10 ^ k = pow-le-pow_right {n = 10} (omega arith) zero_k in omega arith

-- a whole number that does not fit 128 bits is not held
pub wide : (n : ℤ) → ¬ (FitsSigned w128 n) → is_held (whole n) ≡ false
unfolding whole
wide n h = not_true (is_held (whole n)) (λ held.
    let small = ltb-true (unsigned_abs n) (2 ^ 120) (and_parts (nat_lt (unsigned_abs n) (2 ^ 120)) (nat_lt 1 (2 ^ 120)) held).0 in
    h (fits n small))
  where
    fits : (n : ℤ) → unsigned_abs n < 2 ^ 120 → FitsSigned w128 n
    fits n small = omega (arith, ints)

holds : (b : Bool) → T b → b ≡ true
holds true h = refl
holds false h = absurd h

-- a number of 1 to 36 significant digits, with a power in range
pub number_in : (negative : Bool) (digits : List ℕ) (power : ℤ) → (length digits ≡ 0 → ⊥) → length digits ≤ 36 → negsuc 35 ≤ℤ power → power ≤ℤ pos 36
    → number_at negative digits power ≡ held_number (scaled (signed negative (digits_value 10 digits)) power)
number_in negative digits power some short low high =
    cond-false (length digits == 0) _ _ (ne_eqb (length digits) 0 some)
    ∙ cond-false (nat_lt 36 (length digits)) _ _ (le-ltb 36 (length digits) short)
    ∙ cond-false (not (in_range power)) _ _ (ap not (and_from (int_le (negsuc 35) power) (int_le power (pos 36)) (holds _ low.le) (holds _ high.le)))
