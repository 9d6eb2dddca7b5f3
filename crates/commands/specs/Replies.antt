-- The lines that tell statuses, and the replies that are faults.
use Rattle.std.specs.Prelude.{◌≡◌, ℕ, Bool, true, false, List, [], Option, Some, None}
use Rattle.exact_field.specs.declared.op.Left.{Left as AStep}
use Rattle.frac128.specs.declared.frac.Frac.{Frac}
use Rattle.deriv_log.specs.LogText.{log_text}
use Rattle.deriv_log.specs.declared.entry.Entry.{Entry}
use Rattle.deriv_log.specs.declared.licence.Licence.{Licence}
use Rattle.deriv_log.specs.declared.licence.Place.TheVariants.{Step}
use Rattle.commands.specs.Text.{file_fault_text, cone_fault_text, licence_text, log_fault_text, wrong_text, too_long_text, columns_text, second_fault_text, empty_part_text, sizes_text, rep_fault_text, weigh_text, weights_text}
use Rattle.commands.specs.declared.reply.Reply.{Reply}
use Rattle.commands.specs.declared.status.LogRefusal.{LogRefusal}
use Rattle.commands.specs.declared.status.LogRefusal.TheVariants.{Text, Wrong}
use Rattle.commands.specs.declared.status.Status.{Status}
use Rattle.commands.specs.declared.status.Status.TheVariants.{FileFault, ConeFault, Left, Refused, TooLong, Columns, SecondFile, EmptyPart, Sizes, RepFault, WeighLeft, Weights}

-- the fault line of a refused log
abbrev pub refusal_text : LogRefusal → List ℕ
refusal_text (Text f) = log_fault_text f
refusal_text (Wrong entry rule) = wrong_text entry rule

-- the line that tells a status; an answer, words without a shape, want of memory and files that fail
-- have none
abbrev pub fault_text : Status → List ℕ
fault_text (FileFault f) = file_fault_text f
fault_text (ConeFault f) = cone_fault_text f
fault_text (Left l) = licence_text l
fault_text (Refused why) = refusal_text why
fault_text (TooLong log read) = too_long_text log read
fault_text (Columns asked cols) = columns_text asked cols
fault_text (SecondFile f) = second_fault_text f
fault_text (EmptyPart second u) = empty_part_text second u
fault_text (Sizes first second) = sizes_text first second
fault_text (RepFault line kind) = rep_fault_text line kind
fault_text (WeighLeft item l) = weigh_text item l
fault_text (Weights given objs) = weights_text given objs
fault_text _ = []

-- a reply tells its status by the line of that, and has no log
pub record TellsFault (r : Reply) : Type 0 where
  pub line : r.text ≡ fault_text r.status
  pub no_log : r.log ≡ None

-- .. and its status is this one
abbrev pub TellsStatus : Status → Reply → Type 0
TellsStatus s r = (r.status ≡ s) × TellsFault r

-- the licence of a step of the check of an entry
abbrev pub step_licence : ℕ → ℕ → AStep Frac → Licence
step_licence entry step l = record { place = Step entry step; left = l; trail = [] }

-- the log of a reply: the text of the entries, where one is wanted
abbrev pub log_for : Bool → List Entry → Option (List ℕ)
log_for true entries = Some (log_text entries)
log_for false entries = None
