-- Whole numbers by sign and magnitude.
use Rattle.std.specs.Prelude.{ℕ, ℤ, pos, negsuc, neg_ℤ, Bool, true, false}

-- the number of this magnitude, negative where the first is true
abbrev pub signed : Bool → ℕ → ℤ
signed true n = neg_ℤ (pos n)
signed false n = pos n

-- whether a number is below 0
abbrev pub is_below_zero : ℤ → Bool
is_below_zero (pos n) = false
is_below_zero (negsuc n) = true

-- whether one of the two is true and the other is not
abbrev pub differ : Bool → Bool → Bool
differ true true = false
differ true false = true
differ false b = b
