-- What is found of the answer to an associated problem.
use Rattle.std.specs.Prelude.{◌≡◌, ℕ, ◌≤◌, List, map, take, filter}
use Rattle.exact_field.specs.Rational.{zero_ℚ}
use Rattle.exact_field.specs.Order.{same_ℚ}
use Rattle.exact_field.specs.Vector.{sum_ℚ}
use Rattle.vlp_problem.specs.declared.problem.Problem.{Problem}
use Rattle.log_rules.specs.Right.{IsRight}
use Rattle.log_rules.specs.declared.answer.Answer.{Answer}
use Rattle.log_rules.specs.declared.answer.Answer.TheVariants.{Infeasible, Whole, Solved}
use Rattle.log_rules.specs.declared.answer.Gen.{Gen}
use Rattle.log_rules.specs.declared.answer.LineGen.{LineGen}
use Rattle.projection.specs.Associated.{IsAssociated}
use Rattle.projection.specs.declared.found.Projection.{Projection}
use Rattle.projection.specs.declared.found.Projection.TheVariants.{Empty, Found}

-- a point or direction, and a line, without the entries after the first k
abbrev pub shortened : ℕ → Gen → Gen
shortened k g = record { y = take k g.y; pre = g.pre }

abbrev pub shortened_line : ℕ → LineGen → LineGen
shortened_line k l = record { d = take k l.d; ray = l.ray; back = l.back }

-- the directions whose entries sum to 0
abbrev pub level_directions : List Gen → List Gen
level_directions directions = filter (λ g. same_ℚ (sum_ℚ g.y) zero_ℚ) directions

-- what is found of an answer: the multipliers that show that nothing is feasible; or the lines, the
-- points and the directions whose entries sum to 0, without last entries, and all facets
abbrev pub IsProjectionFrom : ℕ → Answer → Projection → Type 0
IsProjectionFrom k (Infeasible u) found = found ≡ Empty u
IsProjectionFrom k (Whole c x ray) found = ⊥
IsProjectionFrom k (Solved c lines points directions facets) found =
    found ≡ Found (map (shortened_line k) lines) (map (shortened k) points)
    (map (shortened k) (level_directions directions)) facets

-- the answer is right for a problem that is associated with some file and k
pub record AnswersAssociated (k : ℕ) (answer : Answer) : Type 0 where
  pub file : Problem
  pub made : Problem
  pub below : k ≤ file.cols
  pub associated : IsAssociated k file made
  pub right : IsRight made answer
