-- What a word means as a number: an optional sign, digits with at most one point, and optionally `e`, an
-- optional sign and digits.
use Rattle.std.specs.Prelude.{ℕ, ◌+◌, ◌-◌, ◌^◌, ◌==◌, Bool, not, ◌&&◌, ◌||◌, nat_lt, min, int_le, if◌then◌else◌, ℤ, pos, negsuc, ◌+ℤ◌, ◌-ℤ◌, ◌*ℤ◌, List, [], ◌∷◌, ◌++◌, length, Option, None, Some, Result, Ok, Err}
use Rattle.std.specs.List.{list_any, list_all, before_first, after_first}
use Rattle.std.specs.Option.{option_map}
use Rattle.std.specs.Str.{byte, all_ascii_digits}
use Rattle.std.specs.Str.Parse.{digits_value, without_leading_sign, starts_with_minus}
use Rattle.exact_field.specs.Rational.{ℚ, whole, zero_ℚ, fraction}
use Rattle.frac128.specs.Held.{is_held}
use Rattle.frac128.specs.Signed.{signed}
use Rattle.vlp_reader.specs.declared.fault.FileKind.{FileKind}
use Rattle.vlp_reader.specs.declared.fault.FileKind.TheVariants.{BadNumber, NumberWide, Digits}

-- one digit or more, and nothing else
abbrev pub is_natural : List ℕ → Bool
is_natural word = nat_lt 0 (length word) && all_ascii_digits word

-- the number that digits write; one from 2^32 on reads as 2^32 - 1, which is above every limit
abbrev pub natural_value : List ℕ → ℕ
natural_value word = min (digits_value 10 word) 4294967295

-- the natural number that a word writes, if it writes one
abbrev pub natural : List ℕ → Option ℕ
natural word = if is_natural word then Some (natural_value word) else None

-- the letter before an exponent,
abbrev pub is_e : ℕ → Bool
is_e b = b == byte "e" || b == byte "E"

-- the decimal point,
abbrev pub is_point : ℕ → Bool
is_point b = b == byte "."

-- and the digit 0
abbrev pub is_nought : ℕ → Bool
is_nought b = b == byte "0"

-- the part before the exponent, without its sign
abbrev pub mantissa : List ℕ → List ℕ
mantissa word = before_first is_e (without_leading_sign word)

-- the digits after the point
abbrev pub decimals : List ℕ → List ℕ
decimals word = after_first is_point (mantissa word)

-- the digits of the mantissa, without the point
abbrev pub mantissa_digits : List ℕ → List ℕ
mantissa_digits word = before_first is_point (mantissa word) ++ decimals word

-- the exponent of a text without a sign: what stands after the first `e`, or 0 without one
abbrev pub exponent_of : List ℕ → Option ℤ
exponent_of text =
    if list_any is_e text
    then option_map (signed (starts_with_minus (after_first is_e text))) (natural (without_leading_sign (after_first is_e text)))
    else Some (pos 0)

-- digits from the first that is not 0 on
abbrev pub without_leading_zeros : List ℕ → List ℕ
without_leading_zeros [] = []
without_leading_zeros (d ∷ digits) = if is_nought d then without_leading_zeros digits else d ∷ digits

-- digits up to the last that is not 0
abbrev pub without_trailing_zeros : List ℕ → List ℕ
without_trailing_zeros [] = []
without_trailing_zeros (d ∷ digits) = if list_all is_nought (d ∷ digits) then [] else d ∷ without_trailing_zeros digits

-- digits from the first to the last that is not 0
abbrev pub significant : List ℕ → List ℕ
significant digits = without_trailing_zeros (without_leading_zeros digits)

-- the power of ten of the significant digits: the exponent, less the digits after the point, and more by the zeros taken off
-- at the end
abbrev pub power : (digits : List ℕ) (places : ℕ) (exponent : ℤ) → ℤ
power digits places exponent = exponent -ℤ pos places +ℤ pos (length (without_leading_zeros digits) - length (significant digits))

-- a whole number times a power of ten
abbrev pub scaled : ℤ → ℤ → ℚ
scaled m (pos k) = whole (m *ℤ pos (10 ^ k))
scaled m (negsuc k) = fraction m (10 ^ (k + 1))

-- powers of ten from -36 to 36
abbrev pub in_range : ℤ → Bool
in_range power = int_le (negsuc 35) power && int_le power (pos 36)

-- a number that is held
abbrev pub held_number : ℚ → Result ℚ FileKind
held_number q = if is_held q then Ok q else Err NumberWide

-- the number of significant digits times a power of ten, or the first test that it fails
abbrev pub number_at : (negative : Bool) (digits : List ℕ) (power : ℤ) → Result ℚ FileKind
number_at negative digits power =
    if length digits == 0 then Ok zero_ℚ
    else if nat_lt 36 (length digits) then Err Digits
    else if not (in_range power) then Err NumberWide
    else held_number (scaled (signed negative (digits_value 10 digits)) power)

-- the number of a mantissa's digits, of which so many stand after the point, with an exponent
abbrev pub number_from : (negative : Bool) (digits : List ℕ) (places : ℕ) → Option ℤ → Result ℚ FileKind
number_from negative digits places None = Err BadNumber
number_from negative digits places (Some exponent) =
    if is_natural digits then number_at negative (significant digits) (power digits places exponent) else Err BadNumber

-- the value of a word, or the first test that it fails
abbrev pub number_of : List ℕ → Result ℚ FileKind
number_of word = number_from (starts_with_minus word) (mantissa_digits word) (length (decimals word)) (exponent_of (without_leading_sign word))
