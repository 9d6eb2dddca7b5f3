-- What is true of the words of commands.
use Rattle.std.specs.Prelude.{◌≡◌, ◌↔◌, ℕ, List, IsTrue}
use Rattle.exact_field.specs.Rational.{ℚ}
use Rattle.commands.specs.Numbers.{WordsOfNumbers}
use Rattle.commands.specs.Weights.{AreWeightsOf, FewWeightsOf, are_weights}

-- which words write numbers and weights
pub record WordLaws : Type 0 where
  pub numbers : WordsOfNumbers
  -- the words that pass the test of weights are those that write from 1 to 20 of them
  pub weights : (word : List ℕ) → IsTrue (are_weights word) ↔ ((weights : List ℚ) × FewWeightsOf word weights)
  -- a word writes but one list
  pub one_list : (word : List ℕ) (v w : List ℚ) → AreWeightsOf word v → AreWeightsOf word w → v ≡ w
