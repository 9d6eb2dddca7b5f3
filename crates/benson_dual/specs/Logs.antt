-- The logs of this engine.
use Rattle.std.specs.Prelude.{ℕ, ◌≤◌, Bool, List, length, map, Contains}
use Rattle.exact_field.specs.Rational.{ℚ}
use Rattle.vlp_problem.specs.declared.problem.Problem.{Problem}
use Rattle.word_lines.specs.declared.part.EndKind.TheVariants as kind
use Rattle.deriv_log.specs.declared.entry.Entry.{Entry}
use Rattle.deriv_log.specs.declared.entry.Entry.TheVariants.{End}
use Rattle.log_rules.specs.Live.{state, named}
use Rattle.cone_dual.specs.declared.duality.Duality.{Duality}
use Rattle.outer_approx.specs.Task.{Task}
use Rattle.recession.specs.Logs.{IsOwnLog}

-- each cut of a log, by its number from 1 on, is named as a facet
abbrev pub AreAllNamed : ℕ → List Entry → Type 0
AreAllNamed q entries = (k : ℕ) → 1 ≤ k → k ≤ length (state q entries).cuts → Contains (named entries) k

-- an own log, of which each cut is named as a facet where it ends as solved
pub record IsFacetLog (holds : ℚ → Bool) (file : Problem) (c weights : List ℚ) (entries : List Entry) : Type 0 where
  pub own : IsOwnLog holds file c weights entries
  pub named : Contains entries (End kind.Solved) → AreAllNamed file.objs entries

-- the task of a file with a duality vector and weights, and with those that were found
abbrev pub task_by : {F : Type 0} → (F → ℚ) → Problem → List F → List F → Task
task_by value file c weights = record { file = file; c = map value c; weights = map value weights }

abbrev pub task_with : {F : Type 0} → (F → ℚ) → Problem → Duality F → Task
task_with value file d = task_by value file d.c d.weights
