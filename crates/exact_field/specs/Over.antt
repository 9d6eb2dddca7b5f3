-- Numbers over one denominator, by their numerators.
use Rattle.std.specs.Prelude.{ℤ, ◌≡◌, ◌<◌, ◌^◌, unsigned_abs}
use Rattle.exact_field.specs.Rational.{ℚ, whole, ◌*ℚ◌}

-- the magnitude is below 2^120
abbrev pub IsBelowLimit : ℤ → Type 0
IsBelowLimit n = unsigned_abs n < 2 ^ 120

-- n is the numerator of q over the denominator d, not always in lowest terms
abbrev pub IsOver : ℤ → ℚ → ℤ → Type 0
IsOver d q n = (whole n ≡ q *ℚ whole d) × IsBelowLimit n

-- q is n / d
abbrev pub IsQuotient : ℤ → ℤ → ℚ → Type 0
IsQuotient d n q = q *ℚ whole d ≡ whole n
