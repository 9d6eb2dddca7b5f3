-- Which numbers fit into words.
use Rattle.std.specs.Prelude.{ℕ, ℤ, pos, negsuc, ◌^◌, Bool, ◌&&◌, nat_lt}
use Rattle.exact_field.specs.Rational.{ℚ}

-- whether a whole number is from -2^63 to 2^63 - 1, and so fits into an `i64`
abbrev pub is_word : ℤ → Bool
is_word (pos n) = nat_lt n (2 ^ 63)
is_word (negsuc n) = nat_lt n (2 ^ 63)

-- whether a numerator and a denominator fit
abbrev pub fit : ℤ → ℕ → Bool
fit n d = is_word n && nat_lt d (2 ^ 63)

-- whether both parts of a number in lowest terms fit
abbrev pub is_small : ℚ → Bool
is_small q = fit q.num q.den
