-- What holds of logs as they are written, and of their upgrades.
use Rattle.std.specs.Prelude.{◌≡◌, ◌↔◌, ℕ, Bool, true, false, List, IsTrue, None}
use Rattle.std.specs.List.{list_all}
use Rattle.exact_field.specs.Rational.{ℚ}
use Rattle.polyhedra.specs.LiveList.{IsRising}
use Rattle.vlp_problem.specs.declared.problem.Problem.{Problem}
use Rattle.deriv_log.specs.Formed.{IsLog, is_formed}
use Rattle.word_lines.specs.declared.part.LogPair.{LogPair}
use Rattle.deriv_log.specs.declared.entry.Entry.{Entry}
use Rattle.log_rules.specs.LogEvents.{plain_failure}
use Rattle.log_rules.specs.Live.{State}
use Rattle.log_rules.specs.Meets.{MeetsAdd}
use Rattle.log_rules.specs.Proves.{AllMeet, PlainProves}
use Rattle.log_rules.specs.Right.{IsRight}
use Rattle.log_rules.specs.declared.answer.Answer.{Answer}
use Rattle.log_versions.specs.Hints.{MeetsAddHints, least_hints}
use Rattle.log_rules.specs.Live.{cut_row, rows_in_use}
use Rattle.log_versions.specs.Plain.{plain, is_plain, is_version_2}
use Rattle.log_versions.specs.Written.{AllWrittenMeet, Proves}
use Rattle.log_versions.specs.WrittenEvents.{log_failure}
use Rattle.log_versions.specs.Upgrade.{upgraded}

-- ---- hints
-- an `addh` that meets its rules is an `add` that meets its rules, where the numbers of the live
-- generators rise
abbrev pub HintsShowPairs : Type 0
HintsShowPairs = (file : Problem) (s : State) (cut : ℕ) (pairs : List LogPair) (hints : List ℕ) →
    IsRising s.list → MeetsAddHints file s cut pairs hints → MeetsAdd file s cut pairs

-- and an `add` that meets its rules has hints: the least generators that cover
abbrev pub PairsHaveHints : Type 0
PairsHaveHints = (file : Problem) (s : State) (cut : ℕ) (pairs : List LogPair) →
    IsRising s.list → MeetsAdd file s cut pairs → MeetsAddHints file s cut pairs
    (least_hints (rows_in_use file.objs s) s.list.live (cut_row s cut) pairs)

-- ---- logs as they are written, and their plain logs
-- a log without a failure meets all its rules
abbrev pub WrittenEventsGiveMeets : Type 0
WrittenEventsGiveMeets = (holds : ℚ → Bool) (file : Problem) (entries : List Entry) →
    log_failure holds file entries ≡ None → AllWrittenMeet file entries

-- and where all numbers are held, a log that meets them has none
abbrev pub WrittenMeetsGiveEvents : Type 0
WrittenMeetsGiveEvents = (file : Problem) (entries : List Entry) →
    AllWrittenMeet file entries → log_failure (λ _. true) file entries ≡ None

-- a log that meets its rules stands for a plain log that meets its own
abbrev pub PlainLogMeets : Type 0
PlainLogMeets = (file : Problem) (entries : List Entry) →
    AllWrittenMeet file entries → AllMeet file (plain entries)

-- its plain log proves the same answer, which is right, and is the only one
pub record ProvesPlainly : Type 0 where
  pub plainly : (file : Problem) (entries : List Entry) (answer : Answer) →
      Proves file entries answer → PlainProves file (plain entries) answer
  pub right : (file : Problem) (entries : List Entry) (answer : Answer) →
      Proves file entries answer → IsRight file answer
  pub one : (file : Problem) (entries : List Entry) (answer answer' : Answer) →
      Proves file entries answer → Proves file entries answer' → answer ≡ answer'

-- a log of version 1 stands for itself, and its failures and what it proves are the plain ones;
-- entries that meet the plain rules are such a log
pub record PlainLogsStay : Type 0 where
  pub same : (entries : List Entry) → IsTrue (list_all is_plain entries) → plain entries ≡ entries
  pub failure : (holds : ℚ → Bool) (file : Problem) (entries : List Entry) →
      is_version_2 entries ≡ false →
      log_failure holds file entries ≡ plain_failure holds file entries
  pub proves : (file : Problem) (entries : List Entry) (answer : Answer) →
      IsTrue (list_all is_plain entries) →
      Proves file entries answer ↔ PlainProves file entries answer
  pub meets : (file : Problem) (entries : List Entry) →
      AllMeet file entries → IsTrue (list_all is_plain entries)
  pub first : (entries : List Entry) →
      IsTrue (list_all is_plain entries) → is_version_2 entries ≡ false

-- ---- upgrades
-- the upgrade of a log without a failure has none, stands for the same plain log and proves the
-- same answer, where its lists are short enough to be written; and it is its own upgrade
pub record IsUpgrade (holds : ℚ → Bool) (file : Problem) (entries : List Entry) : Type 0 where
  pub second : IsTrue (is_version_2 (upgraded file.objs entries))
  pub passes : log_failure holds file (upgraded file.objs entries) ≡ None
  pub plainly : plain (upgraded file.objs entries) ≡ plain entries
  pub proves : (answer : Answer) → IsTrue (list_all is_formed (upgraded file.objs entries)) →
      Proves file entries answer → Proves file (upgraded file.objs entries) answer
  pub once : upgraded file.objs (upgraded file.objs entries) ≡ upgraded file.objs entries

-- so it is for every log without a failure
abbrev pub UpgradesSayTheSame : Type 0
UpgradesSayTheSame = (holds : ℚ → Bool) (file : Problem) (entries : List Entry) →
    IsLog entries → log_failure holds file entries ≡ None → IsUpgrade holds file entries
