-- Which words are weights.
use Rattle.std.specs.Prelude.{◌≡◌, ◌==◌, ℕ, ◌≤◌, nat_le, ◌&&◌, Bool, List, length, map, All, IsTrue}
use Rattle.std.specs.List.{list_all, slice_split}
use Rattle.std.specs.Option.{is_none}
use Rattle.std.specs.Str.{byte}
use Rattle.exact_field.specs.Rational.{ℚ}
use Rattle.frac128.specs.Held.{is_held}
use Rattle.frac128.specs.Text.{frac_text}
use Rattle.word_lines.specs.Numerals.{number_fault}

-- what stands between the commas of a word
abbrev pub pieces : List ℕ → List (List ℕ)
pieces word = slice_split (λ b. b == byte ",") word

-- whether a word is from 1 to 20 fractions, each in its canonical form and held, with a comma between
-- one and the next
abbrev pub are_weights : List ℕ → Bool
are_weights word =
    list_all (λ p. is_none (number_fault p)) (pieces word) && nat_le (length (pieces word)) 20

-- these are the weights that a word writes: as many as pieces, each the value of its piece
pub record AreWeightsOf (word : List ℕ) (weights : List ℚ) : Type 0 where
  pub texts : map frac_text weights ≡ pieces word
  pub held : All (λ q. IsTrue (is_held q)) weights

-- and they are from 1 to 20
pub record FewWeightsOf (word : List ℕ) (weights : List ℚ) : Type 0 where
  pub some : 1 ≤ length weights
  pub most : length weights ≤ 20
  pub written : AreWeightsOf word weights
