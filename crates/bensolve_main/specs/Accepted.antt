-- What a command that checks logs says of the log that another command wrote, by the bytes alone.
use Rattle.std.specs.Prelude.{◌≡◌, ℕ, ◌≤◌, ◌⊎◌, false, List, length, Option, None, Some}
use Rattle.cert_check.specs.Streams.{ReadsWhole}
use Rattle.commands.specs.Tasks.{Shape, Task, shape}
use Rattle.commands.specs.Tasks.Task.{check, dual, facets, reconv, solve, vertices}
use Rattle.commands.specs.Tasks.Files.{two, logged}
use Rattle.commands.specs.declared.status.Status.{Status}
use Rattle.commands.specs.declared.status.Status.TheVariants.{Done}
use Rattle.bensolve_main.specs.Deliver.{Sends}
use Rattle.bensolve_main.specs.Outcome.{Outcome, Halts}
use Rattle.bensolve_main.specs.Reading.{problem_limit, log_limit}
use Rattle.bensolve_main.specs.World.{World, Written}

-- which task checks the log that a task writes, with the same first text
abbrev pub checker_of : Task → Option Task
checker_of solve = Some check
checker_of dual = Some check
checker_of vertices = Some reconv
checker_of facets = Some reconv
checker_of _ = None

-- the sources tell exactly these bytes of a first text and of a log, which is within its limit
pub record TellsBoth (bytes log_bytes : List ℕ) (old : World) : Type 0 where
  pub problem : old.problem.bytes ≡ Some bytes
  pub log : old.log_in.bytes ≡ Some log_bytes
  pub log_within : length log_bytes ≤ log_limit

-- every run of the check over these bytes, whatever files its words name, ends with `Done` and has
-- written exactly this report, or its output failed within the report; or it halted, for want of
-- memory or because a source failed
abbrev pub IsAcceptedAs : Task → List ℕ → List ℕ → List ℕ → Type 0
IsAcceptedAs checker report problem log =
    (path log_path : List ℕ) (result : Status) (old new : World) →
    TellsBoth problem log old → Outcome (shape checker (two path log_path)) result old new →
    Sends false report Done result old.out new.out
    ⊎ Halts (shape checker (two path log_path)) result old new

-- the bytes of the first text were read to their end, a report and then a log were written whole, and
-- over the same bytes of the first text this log is accepted with this report
pub record WritesAccepted (checker : Task) (old new : World) : Type 0 where
  pub problem : List ℕ
  pub read : ReadsWhole old.problem.bytes new.problem.bytes problem_limit problem
  pub report : List ℕ
  pub reported : Written report old.out new.out
  pub log : List ℕ
  pub logged : Written log old.log_out new.log_out
  pub accepted : IsAcceptedAs checker report problem log

-- what a command has written where it ends with an answer and a log that is checked so
abbrev pub Accepted : Shape → Status → World → World → Type 0
Accepted s result old new = (t checker : Task) (file log : List ℕ) → checker_of t ≡ Some checker →
    s ≡ shape t (logged file log) → result ≡ Done → WritesAccepted checker old new
