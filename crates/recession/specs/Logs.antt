-- The logs of a solver.
use Rattle.std.specs.Prelude.{Bool, List, []}
use Rattle.exact_field.specs.Rational.{ℚ}
use Rattle.vlp_problem.specs.declared.problem.Problem.{Problem}
use Rattle.deriv_log.specs.Formed.{IsLog}
use Rattle.deriv_log.specs.declared.entry.Entry.{Entry}
use Rattle.log_rules.specs.Proves.{AllMeet, Gives}
use Rattle.log_rules.specs.declared.answer.Answer.{Answer}
use Rattle.overflows.specs.Licence.{IsPossible}
use Rattle.overflows.specs.Trails.{IsBaseTrail}
use Rattle.deriv_log.specs.declared.entry.Entry.TheVariants.{Duality}
use Rattle.outer_approx.specs.Task.{Task}

-- the entries are a log of which each meets its rules, so that they prove an answer; and a base trail for this duality vector and these
-- weights, which are possible
pub record IsOwnLog (holds : ℚ → Bool) (file : Problem) (c weights : List ℚ) (entries : List Entry) : Type 0 where
  pub log : IsLog entries
  pub meet : AllMeet file entries
  pub answer : Answer
  pub gives : Gives file entries answer
  pub possible : IsPossible holds file c weights
  pub base : IsBaseTrail file c weights entries

-- .. for some duality vector and weights
abbrev pub IsOwnLogAnyhow : (ℚ → Bool) → Problem → List Entry → Type 0
IsOwnLogAnyhow holds file entries = (c weights : List ℚ) × IsOwnLog holds file c weights entries

-- the task of a file with the duality vector of this entry
abbrev pub task_of : Problem → Entry → Task
task_of file (Duality c weights picks inverse) = record { file = file; c = c; weights = weights }
task_of file _ = record { file = file; c = []; weights = [] }
