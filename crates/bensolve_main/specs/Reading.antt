-- How texts are read: the problem or representation, and the log or the second problem after it.
use Rattle.std.specs.Prelude.{◌≡◌, ◌⊎◌, ℕ, Bool, false, List}
use Rattle.vlp_reader.specs.FirstFault.{FirstFault, Reads}
use Rattle.vlp_reader.specs.declared.fault.FileFault.{FileFault as AFileFault}
use Rattle.vlp_problem.specs.declared.problem.Problem.{Problem}
use Rattle.word_lines.specs.declared.fault.LogFault.{LogFault}
use Rattle.rep_text.specs.RepFault.{RepFirstFault}
use Rattle.rep_text.specs.RepText.{IsRepText}
use Rattle.rep_text.specs.declared.rep.Rep.{Rep}
use Rattle.cert_check.specs.Streams.{ReadsWhole}
use Rattle.commands.specs.Replies.{TellsFault}
use Rattle.commands.specs.declared.reply.Reply.{Reply}
use Rattle.commands.specs.declared.status.Status.{Status}
use Rattle.commands.specs.declared.status.Status.TheVariants.{FileFault, ReadFault, RepFault, TooLong}
use Rattle.src_sink.specs.Ends.{TakesAtMost}
use Rattle.bensolve_main.specs.World.{Channel, ReadPast, ReadFailed}

-- the most bytes that are read of a problem or representation, and of a log: 16 MiB and 384 MiB
abbrev pub problem_limit : ℕ
problem_limit = 16777216

abbrev pub log_limit : ℕ
log_limit = 402653184

-- a problem was read to its end, and reads as this file
pub record GoodFile (file : Problem) (old new : Channel) : Type 0 where
  pub bytes : List ℕ
  pub read : ReadsWhole old.bytes new.bytes problem_limit bytes
  pub reads : Reads bytes file

-- more bytes were taken than the limit, and so many: of the first text, or of the one after it
pub record TooMuch (second : Bool) (limit : ℕ) (r : Reply) (old new : Channel) : Type 0 where
  pub read : ℕ
  pub status : r.status ≡ TooLong second read
  pub past : ReadPast old new limit read
  pub told : TellsFault r

-- a problem was read to its end, and this is its first fault
pub record NoFile (StatusOf : AFileFault → Status) (r : Reply) (old new : Channel) : Type 0 where
  pub fault : AFileFault
  pub status : r.status ≡ StatusOf fault
  pub bytes : List ℕ
  pub read : ReadsWhole old.bytes new.bytes problem_limit bytes
  pub first : FirstFault bytes fault.line fault.kind
  pub told : TellsFault r

-- what is told of a problem that is none, or too long
abbrev pub FileRefused : Reply → Channel → Channel → Type 0
FileRefused r old new = TooMuch false problem_limit r old new ⊎ NoFile FileFault r old new

-- a text was read to its end, and is that of this representation
pub record GoodRep (rep : Rep) (old new : Channel) : Type 0 where
  pub bytes : List ℕ
  pub read : ReadsWhole old.bytes new.bytes problem_limit bytes
  pub is_text : IsRepText bytes rep

-- a text was read to its end, and this is its first fault as that of a representation
pub record NoRep (r : Reply) (old new : Channel) : Type 0 where
  pub fault : LogFault
  pub status : r.status ≡ RepFault fault.line fault.kind
  pub bytes : List ℕ
  pub read : ReadsWhole old.bytes new.bytes problem_limit bytes
  pub first : RepFirstFault bytes fault
  pub told : TellsFault r

-- what is told of a text that is no representation's, or too long
abbrev pub RepRefused : Reply → Channel → Channel → Type 0
RepRefused r old new = TooMuch false problem_limit r old new ⊎ NoRep r old new

-- what was taken of a source where memory is wanting: at most its limit; or more, and no memory was
-- left to tell it
abbrev pub TakenInWant : ℕ → Channel → Channel → Type 0
TakenInWant limit old new =
    TakesAtMost old.bytes new.bytes limit ⊎ ((read : ℕ) × ReadPast old new limit read)

-- a source failed before the limit was passed
pub record SourceFailed (second : Bool) (limit : ℕ) (s : Status) (old new : Channel) : Type 0 where
  pub status : s ≡ ReadFault second
  pub failed : ReadFailed old new limit
