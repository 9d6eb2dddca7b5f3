-- What `reconv` replies of a representation and of the bytes of a log.
use Rattle.std.specs.Prelude.{◌≡◌, ◌⊎◌, ℕ, List, [], None, Some}
use Rattle.frac128.specs.Held.{is_held}
use Rattle.word_lines.specs.FirstFault.{FirstFault, line_test}
use Rattle.word_lines.specs.Grammar.{IsTextOf}
use Rattle.word_lines.specs.declared.fault.LogFault.{LogFault}
use Rattle.deriv_log.specs.declared.licence.Licence.{Licence}
use Rattle.deriv_log.specs.declared.licence.Place.TheVariants.{Step}
use Rattle.log_rules.specs.Events.Failure.{wrong, left}
use Rattle.log_rules.specs.declared.rule.Rule.{Rule}
use Rattle.rep_text.specs.ConvText.{conv_forms, conv_grammar}
use Rattle.rep_text.specs.RepText.{rep_text}
use Rattle.rep_text.specs.declared.conv.ConvEntry.{ConvEntry}
use Rattle.rep_text.specs.declared.rep.Rep.{Rep}
use Rattle.rep_conv.specs.Converted.{Gives, IsOther}
use Rattle.rep_conv.specs.Events.{conv_failure}
use Rattle.commands.specs.Replies.{TellsFault}
use Rattle.commands.specs.declared.reply.Reply.{Reply}
use Rattle.commands.specs.declared.status.LogRefusal.TheVariants.{Text, Wrong}
use Rattle.commands.specs.declared.status.Status.TheVariants.{Done, Left, Refused}

-- the bytes are the text of no log of a conversion, and this is their first fault
pub record IsNoLog (bytes : List ℕ) (r : Reply) : Type 0 where
  pub fault : LogFault
  pub status : r.status ≡ Refused (Text fault)
  pub first : FirstFault (line_test conv_forms) bytes fault
  pub told : TellsFault r

-- the first event of a log that fails is a test, of this entry and rule
pub record FailsAt (rep : Rep) (bytes : List ℕ) (r : Reply) : Type 0 where
  pub entry : ℕ
  pub rule : Rule
  pub status : r.status ≡ Refused (Wrong entry rule)
  pub log : List ConvEntry
  pub is_log : IsTextOf conv_grammar bytes log
  pub wrong : conv_failure is_held rep log
      ≡ Some (record { entry = entry; failure = wrong rule })
  pub told : TellsFault r

-- the first event of a log that fails is a step, of the entry and number that the licence names and
-- with its operands; no entry was made
pub record StopsAt (rep : Rep) (bytes : List ℕ) (r : Reply) : Type 0 where
  pub licence : Licence
  pub status : r.status ≡ Left licence
  pub entry : ℕ
  pub step : ℕ
  pub place : licence.place ≡ Step entry step
  pub trail : licence.trail ≡ []
  pub log : List ConvEntry
  pub is_log : IsTextOf conv_grammar bytes log
  pub stops : conv_failure is_held rep log ≡ Some (record {
    entry = entry;
    failure = left step licence.left.op licence.left.a licence.left.b;
  })
  pub told : TellsFault r

-- no event of a log fails, and the text is that of the representation that the log gives: the other
-- one of the same set, of which no row can be left out
pub record Reconverted (rep : Rep) (bytes : List ℕ) (r : Reply) : Type 0 where
  pub status : r.status ≡ Done
  pub log : List ConvEntry
  pub is_log : IsTextOf conv_grammar bytes log
  pub accepted : conv_failure is_held rep log ≡ None
  pub other : Rep
  pub gives : Gives rep log other
  pub right : IsOther rep other
  pub text : r.text ≡ rep_text other
  pub no_log : r.log ≡ None

-- what is replied where a log gives nothing
abbrev pub RefusesLog : Rep → List ℕ → Reply → Type 0
RefusesLog rep bytes r = IsNoLog bytes r ⊎ (FailsAt rep bytes r ⊎ StopsAt rep bytes r)

-- what `reconv` replies of a representation and the bytes of a log
abbrev pub ReconvVerdict : Rep → List ℕ → Reply → Type 0
ReconvVerdict rep bytes r = Reconverted rep bytes r ⊎ RefusesLog rep bytes r

-- nothing stands against it: the bytes are the text of a log of which no event fails
pub record CanReconvert (rep : Rep) (bytes : List ℕ) : Type 0 where
  pub log : List ConvEntry
  pub is_log : IsTextOf conv_grammar bytes log
  pub accepted : conv_failure is_held rep log ≡ None
