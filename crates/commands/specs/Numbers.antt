-- Which words are numbers from 1 on.
use Rattle.std.specs.Prelude.{◌≡◌, ◌↔◌, ℕ, ◌≤◌, ◌<◌, ◌^◌, nat_le, ◌&&◌, Bool, if◌then◌else◌, List, decimal, Option, None, Some}
use Rattle.std.specs.Str.{bytes_eq}
use Rattle.std.specs.Str.Parse.{digits_value}

-- whether a word is the decimal text of this number, and the number one from 1 to `most`
abbrev pub is_word_of : ℕ → List ℕ → ℕ → Bool
is_word_of most word number = bytes_eq word (decimal number) && (nat_le 1 number && nat_le number most)

-- the number from 1 to `most` that a word is the decimal text of, with no sign and no zero in front
abbrev pub number_of : ℕ → List ℕ → Option ℕ
number_of most word =
    if is_word_of most word (digits_value 10 word) then Some (digits_value 10 word) else None

-- a word is the decimal text of a number from 1 to `most`
pub record Names (most : ℕ) (word : List ℕ) (number : ℕ) : Type 0 where
  pub text : word ≡ decimal number
  pub low : 1 ≤ number
  pub high : number ≤ most

-- words give the numbers from 1 to `most` by their decimal texts, and nothing else
abbrev pub WordsOfNumbers : Type 0
WordsOfNumbers = (most : ℕ) (word : List ℕ) (number : ℕ) → most < 2 ^ 32 →
    (number_of most word ≡ Some number) ↔ Names most word number
