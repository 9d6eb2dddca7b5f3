-- The upgrade of a log.
use Rattle.std.specs.Prelude.{◌≡◌, List}
use Rattle.vlp_problem.specs.declared.problem.Problem.{Problem}
use Rattle.deriv_log.specs.Formed.{IsLog}
use Rattle.deriv_log.specs.declared.entry.Entry.{Entry}
use Rattle.log_rules.specs.declared.answer.Answer.{Answer}
use Rattle.log_versions.specs.Upgrade.{upgraded}
use Rattle.cert_check.specs.Verdict.{Accepts}

-- the entries are the upgrade of those of a log, and both are accepted with one answer
pub record IsUpgradeOf (file : Problem) (entries upgrade : List Entry) : Type 0 where
  pub is : upgrade ≡ upgraded file.objs entries
  pub is_log : IsLog upgrade
  pub answer : Answer
  pub accepts : Accepts file entries answer
  pub as_well : Accepts file upgrade answer
