-- A test of a number that is not below 0.
use Rattle.std.proofs.Common.{◌≡◌, refl, sym, Bool, true, false}
use Rattle.std.specs.Prelude.{not}
use Rattle.exact_field.specs.Rational.{ℚ, zero_ℚ, le_ℚ, lt_ℚ}

not_not : (b : Bool) → not (not b) ≡ b
not_not true = refl
not_not false = refl

-- a number is below 0 exactly where 0 is not at most the number
pub at_least : (p : ℚ) → le_ℚ zero_ℚ p ≡ not (lt_ℚ p zero_ℚ)
at_least p = sym (not_not (le_ℚ zero_ℚ p))
