-- Numbers as whole numbers over a power of ten.
use Rattle.std.specs.Prelude.{ℕ, suc, zero, ◌+◌, ◌/◌, ◌%◌, ◌^◌, ◌==◌, Bool, ◌&&◌, ◌||◌, nat_lt, if◌then◌else◌, unsigned_abs, ℤ, pos, ◌*ℤ◌, List, [], ◌++◌, codes, decimal, Option, None, Some, is_some}
use Rattle.std.specs.Fmt.{signed_decimal}
use Rattle.exact_field.specs.Rational.{ℚ}
use Rattle.frac128.specs.Held.{is_held}
use Rattle.vlp_printer.specs.declared.decimal.Decimal.{Decimal}

-- the first of the powers of ten from 10^k on, n of them, that a denominator divides
abbrev pub places_from : (den k n : ℕ) → Option ℕ
places_from den k zero = None
places_from den k (suc n) = if 10 ^ k % den == 0 then Some k else places_from den (k + 1) n

-- the least number of places after the point that a number needs, where 36 are enough
abbrev pub places : ℚ → Option ℕ
places q = places_from q.den 0 37

-- the whole number that a number is over 10^k
abbrev pub mantissa : ℚ → ℕ → ℤ
mantissa q k = q.num *ℤ pos (10 ^ k / q.den)

-- whether a whole number has at most 36 digits, but for one 0 at its end
abbrev pub is_short : ℤ → Bool
is_short m = nat_lt (unsigned_abs m) (10 ^ 36) || unsigned_abs m % 10 == 0 && nat_lt (unsigned_abs m) (10 ^ 37)

-- a number with so many places, where its whole number is short enough
abbrev pub decimal_at : ℚ → Option ℕ → Option Decimal
decimal_at q None = None
decimal_at q (Some k) = if is_short (mantissa q k) then Some (record { mantissa = mantissa q k; places = k }) else None

-- the form in which a number is written, where it is one that a fraction holds and the grammar of files has a word for it
abbrev pub decimal_of : ℚ → Option Decimal
decimal_of q = if is_held q then decimal_at q (places q) else None

-- whether a number has such a form
abbrev pub is_decimal : ℚ → Bool
is_decimal q = is_some (decimal_of q)

-- `M`, or `MeK` where K is below 0
abbrev pub decimal_text : Option Decimal → List ℕ
decimal_text None = []
decimal_text (Some d) = if d.places == 0 then signed_decimal d.mantissa else signed_decimal d.mantissa ++ codes "e-" ++ decimal d.places

-- the word of a number
abbrev pub number_text : ℚ → List ℕ
number_text q = decimal_text (decimal_of q)
