-- What `relog` says of the bytes of a log, for a problem: the log of version 2 that says the same.
use Rattle.std.specs.Prelude.{◌≡◌, ◌⊎◌, ℕ, List, None}
use Rattle.vlp_problem.specs.declared.problem.Problem.{Problem}
use Rattle.deriv_log.specs.Laws.{IsTextOf}
use Rattle.deriv_log.specs.declared.entry.Entry.{Entry}
use Rattle.log_rules.specs.declared.answer.Answer.{Answer}
use Rattle.log_versions.specs.Upgrade.{upgraded}
use Rattle.cert_check.specs.Verdict.{Accepts}
use Rattle.commands.specs.declared.reply.Reply.{Reply}
use Rattle.commands.specs.declared.status.Status.TheVariants.{Done}
use Rattle.bensolve_main.specs.Check.{NoLog, FailsAt, StopsAt}

-- no event of a log's entries fails, they prove an answer for the file, which is right, and the text
-- is that of their upgrade: a log of which no event fails, and which proves the same answer
pub record Relogged (file : Problem) (bytes : List ℕ) (r : Reply) : Type 0 where
  pub status : r.status ≡ Done
  pub entries : List Entry
  pub log : IsTextOf bytes entries
  pub answer : Answer
  pub accepts : Accepts file entries answer
  pub text : IsTextOf r.text (upgraded file.objs entries)
  pub upgrade : Accepts file (upgraded file.objs entries) answer
  pub no_log : r.log ≡ None

-- what is told of the bytes of a log: where there is no upgrade, what `check` tells
abbrev pub RelogVerdict : Problem → List ℕ → Reply → Type 0
RelogVerdict file bytes r =
    Relogged file bytes r ⊎ (NoLog bytes r ⊎ (FailsAt file bytes r ⊎ StopsAt file bytes r))
