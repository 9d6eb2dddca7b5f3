-- Entries that meet the rules of a plain log are one: as a log that is written it fails where it
-- did, and proves what it did.
use Rattle.std.proofs.Common.{◌≡◌, List, sym, ◌∙◌, IsTrue, Option}
use Rattle.std.specs.List.{list_all}
use Rattle.frac128.specs.Held.{is_held}
use Rattle.vlp_problem.specs.declared.problem.Problem.{Problem}
use Rattle.deriv_log.specs.declared.entry.Entry.{Entry}
use Rattle.log_rules.specs.LogEvents.{Failing, plain_failure}
use Rattle.log_rules.specs.Proves.{AllMeet, PlainProves}
use Rattle.log_rules.specs.declared.answer.Answer.{Answer}
use Rattle.log_versions.specs.Plain.{is_plain}
use Rattle.log_versions.specs.Written.{Proves}
use Rattle.log_versions.specs.WrittenEvents.{log_failure}
use Rattle.log_versions.proofs.PlainStay.{plain_logs_stay}

module _ (file : Problem) (entries : List Entry) (meet : AllMeet file entries) where
  all_plain : IsTrue (list_all is_plain entries)
  all_plain = plain_logs_stay.meets file entries meet

  pub fails_plainly : (failing : Option Failing) →
      log_failure is_held file entries ≡ failing → plain_failure is_held file entries ≡ failing
  fails_plainly failing h =
      sym (plain_logs_stay.failure is_held file entries (plain_logs_stay.first entries all_plain)) ∙ h

  pub proved_plainly : (answer : Answer) → Proves file entries answer →
      PlainProves file entries answer
  proved_plainly answer h = (plain_logs_stay.proves file entries answer all_plain).0 h
