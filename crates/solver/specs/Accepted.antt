-- What a check says of the log of a solution, by the bytes of the problem and of the log alone.
use Rattle.std.specs.Prelude.{◌≡◌, ℕ, List, None}
use Rattle.frac128.specs.Held.{is_held}
use Rattle.vlp_reader.specs.FirstFault.{Reads}
use Rattle.vlp_problem.specs.declared.problem.Problem.{Problem}
use Rattle.deriv_log.specs.Laws.{IsTextOf}
use Rattle.deriv_log.specs.LogText.{log_text}
use Rattle.deriv_log.specs.declared.entry.Entry.{Entry}
use Rattle.deriv_log.specs.Formed.{IsLog}
use Rattle.log_rules.specs.Report.{report_text}
use Rattle.log_rules.specs.declared.answer.Answer.{Answer}
use Rattle.log_versions.specs.Upgrade.{upgraded}
use Rattle.log_versions.specs.Written.{Proves}
use Rattle.log_versions.specs.WrittenEvents.{log_failure}
use Rattle.solver.specs.declared.end.Solution.{Solution}

-- the text of the entries is that of a log, no event of which fails for the problem, and each
-- answer that they prove for it has this report
pub record PassesAs (report : List ℕ) (problem : Problem) (entries : List Entry) : Type 0 where
  pub text : IsTextOf (log_text entries) entries
  pub passes : log_failure is_held problem entries ≡ None
  pub reports : (answer : Answer) → Proves problem entries answer →
      report_text problem answer ≡ report

-- whatever bytes read as the file: of each problem as which they read the upgrade of the solution's
-- log, where it is a log, proves an answer with the same report
abbrev pub IsAccepted : Problem → Solution → Type 0
IsAccepted file s = (bytes : List ℕ) (problem : Problem) → Reads bytes file → Reads bytes problem →
    IsLog (upgraded file.objs s.entries) →
    PassesAs (report_text file s.answer) problem (upgraded file.objs s.entries)
