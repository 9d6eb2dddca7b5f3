-- The laws of printing and reading.
use Rattle.std.specs.Prelude.{◌≡◌, ℕ, true, false, List, Ok, All}
use Rattle.exact_field.specs.Rational.{ℚ}
use Rattle.vlp_reader.specs.FirstFault.{Reads}
use Rattle.vlp_reader.specs.Number.{number_of}
use Rattle.vlp_problem.specs.declared.problem.Problem.{Problem}
use Rattle.vlp_printer.specs.Decimal.{is_decimal, number_text}
use Rattle.vlp_problem.specs.Values.{printed_numbers}
use Rattle.vlp_printer.specs.Printing.{HasWord, IsWithinLimits, problem_text}

-- what is printed reads back, number by number and as a whole
pub record PrintingLaws : Type 0 where
  -- a number with a decimal form is the value of its word, and one without is the value of none
  pub word : (q : ℚ) → is_decimal q ≡ true → number_of (number_text q) ≡ Ok q
  pub no_word : (q : ℚ) → is_decimal q ≡ false → ¬ HasWord q
  -- the text of a problem within the limits, all of whose numbers have a word, reads as this problem
  pub round_trip : (problem : Problem) → All HasWord (printed_numbers problem) → IsWithinLimits problem → Reads (problem_text problem) problem
  -- each number of a problem that was read is the value of a word
  pub read_words : (bytes : List ℕ) (problem : Problem) → Reads bytes problem → All HasWord (printed_numbers problem)
