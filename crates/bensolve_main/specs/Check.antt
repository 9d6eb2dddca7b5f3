-- What `check` says of the bytes of a log, for a problem.
use Rattle.std.specs.Prelude.{◌≡◌, ◌⊎◌, ℕ, List, [], None, Some}
use Rattle.frac128.specs.Held.{is_held}
use Rattle.vlp_problem.specs.declared.problem.Problem.{Problem}
use Rattle.deriv_log.specs.FirstFault.{FirstFault as FirstLogFault}
use Rattle.deriv_log.specs.Laws.{IsTextOf}
use Rattle.deriv_log.specs.declared.entry.Entry.{Entry}
use Rattle.word_lines.specs.declared.fault.LogFault.{LogFault as ALogFault}
use Rattle.deriv_log.specs.declared.licence.Licence.{Licence}
use Rattle.deriv_log.specs.declared.licence.Place.TheVariants.{Step}
use Rattle.log_rules.specs.Events.Failure.{wrong, left}
use Rattle.log_rules.specs.Report.{report_text}
use Rattle.log_rules.specs.Right.{IsRight}
use Rattle.log_rules.specs.declared.answer.Answer.{Answer}
use Rattle.log_rules.specs.declared.rule.Rule.{Rule}
use Rattle.log_versions.specs.Written.{Proves}
use Rattle.log_versions.specs.WrittenEvents.{log_failure}
use Rattle.commands.specs.Replies.{TellsFault}
use Rattle.commands.specs.declared.reply.Reply.{Reply}
use Rattle.commands.specs.declared.status.LogRefusal.TheVariants.{Text, Wrong}
use Rattle.commands.specs.declared.status.Status.TheVariants.{Done, Left, Refused}

-- the bytes are the text of no log, and this is their first fault
pub record NoLog (bytes : List ℕ) (r : Reply) : Type 0 where
  pub fault : ALogFault
  pub status : r.status ≡ Refused (Text fault)
  pub first : FirstLogFault bytes fault
  pub told : TellsFault r

-- the first event of a log's entries that fails is a test, of this entry and rule
pub record FailsAt (file : Problem) (bytes : List ℕ) (r : Reply) : Type 0 where
  pub entry : ℕ
  pub rule : Rule
  pub status : r.status ≡ Refused (Wrong entry rule)
  pub entries : List Entry
  pub log : IsTextOf bytes entries
  pub wrong : log_failure is_held file entries
      ≡ Some (record { entry = entry; failure = wrong rule })
  pub told : TellsFault r

-- the first event of a log's entries that fails is a step, of the entry and number that the licence
-- names and with its operands; no entry was made
pub record StopsAt (file : Problem) (bytes : List ℕ) (r : Reply) : Type 0 where
  pub licence : Licence
  pub status : r.status ≡ Left licence
  pub entry : ℕ
  pub step : ℕ
  pub place : licence.place ≡ Step entry step
  pub trail : licence.trail ≡ []
  pub entries : List Entry
  pub log : IsTextOf bytes entries
  pub stops : log_failure is_held file entries ≡ Some (record {
    entry = entry;
    failure = left step licence.left.op licence.left.a licence.left.b;
  })
  pub told : TellsFault r

-- no event of a log's entries fails, they prove an answer for the file, that answer is right, and
-- this is its report
pub record Proved (file : Problem) (bytes : List ℕ) (r : Reply) : Type 0 where
  pub status : r.status ≡ Done
  pub entries : List Entry
  pub log : IsTextOf bytes entries
  pub passes : log_failure is_held file entries ≡ None
  pub answer : Answer
  pub proves : Proves file entries answer
  pub right : IsRight file answer
  pub report : r.text ≡ report_text file answer
  pub no_log : r.log ≡ None

-- what is told of the bytes of a log
abbrev pub CheckVerdict : Problem → List ℕ → Reply → Type 0
CheckVerdict file bytes r =
    Proved file bytes r ⊎ (NoLog bytes r ⊎ (FailsAt file bytes r ⊎ StopsAt file bytes r))
