-- The words of numbers: the first test that a word fails as a natural number, and as a fraction.
use Rattle.std.specs.Prelude.{ℕ, ◌^◌, ◌==◌, Bool, true, false, not, ◌&&◌, ◌||◌, nat_lt, nat_le, if◌then◌else◌, List, [], ◌∷◌, length, drop, codes, slice_index, Option, None, Some}
use Rattle.std.specs.List.{slice_split}
use Rattle.std.specs.Str.{all_ascii_digits}
use Rattle.std.specs.Str.Parse.{digits_value, starts_with_minus}
use Rattle.exact_field.specs.Gcd.{gcd}
use Rattle.word_lines.specs.declared.fault.LogKind.{LogKind}
use Rattle.word_lines.specs.declared.fault.LogKind.TheVariants.{BadNumber, NumberWide, OutOfRange}

-- whether two words are one
abbrev pub same_word : List ℕ → List ℕ → Bool
same_word [] [] = true
same_word (x ∷ xs) (y ∷ ys) = x == y && same_word xs ys
same_word _ _ = false

-- one digit or more, the first not `0`
abbrev pub is_positive_numeral : List ℕ → Bool
is_positive_numeral word = nat_lt 0 (length word) && (all_ascii_digits word && not (slice_index word 0 == 48))

-- digits without a leading zero, or `0`
abbrev pub is_numeral : List ℕ → Bool
is_numeral word = same_word word (codes "0") || is_positive_numeral word

-- the first test that a word fails as a natural number
abbrev pub natural_fault : List ℕ → Option LogKind
natural_fault word =
    if not (is_numeral word) then Some BadNumber
    else if nat_lt 4294967295 (digits_value 10 word) then Some OutOfRange
    else None

-- a fraction's word without its minus, cut at each `/`: the numerator, and perhaps the denominator
abbrev pub fraction_pieces : List ℕ → List (List ℕ)
fraction_pieces word = slice_split (λ b. b == 47) (if starts_with_minus word then drop 1 word else word)

-- a numerator that is not 0, alone or with a denominator above 1
abbrev pub is_quotient : List (List ℕ) → Bool
is_quotient (num ∷ []) = is_positive_numeral num
is_quotient (num ∷ den ∷ []) = is_positive_numeral num && (is_positive_numeral den && nat_lt 1 (digits_value 10 den))
is_quotient _ = false

-- the numerator's magnitude
abbrev pub numerator : List (List ℕ) → ℕ
numerator (num ∷ _) = digits_value 10 num
numerator [] = 0

-- the denominator, and 1 where none is written
abbrev pub denominator : List (List ℕ) → ℕ
denominator (num ∷ den ∷ _) = digits_value 10 den
denominator _ = 1

-- the tests of a fraction that is not `0`: its form, its width, and that it is in lowest terms
abbrev pub quotient_fault : List (List ℕ) → Option LogKind
quotient_fault pieces =
    if not (is_quotient pieces) then Some BadNumber
    else if nat_le (2 ^ 120) (numerator pieces) || nat_le (2 ^ 120) (denominator pieces) then Some NumberWide
    else if not (gcd (numerator pieces) (denominator pieces) == 1) then Some BadNumber
    else None

-- the first test that a word fails as a fraction
abbrev pub number_fault : List ℕ → Option LogKind
number_fault word = if same_word word (codes "0") then None else quotient_fault (fraction_pieces word)
