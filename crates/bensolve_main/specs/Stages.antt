-- What the steps of a run tell. For the clauses of the code alone.
use Rattle.std.specs.Prelude.{◌≡◌, ◌⊎◌, ℕ, ◌<◌, ◌≤◌, Bool, true, false, List, IsTrue}
use Rattle.vlp_reader.specs.declared.fault.FileFault.{FileFault as AFileFault}
use Rattle.vlp_problem.specs.declared.problem.Problem.{Problem}
use Rattle.rep_text.specs.declared.rep.Rep.{Rep}
use Rattle.cert_check.specs.Streams.{ReadsWhole}
use Rattle.cert_check.specs.declared.fault.Refusal.TheVariants as refusal
use Rattle.cert_check.specs.declared.fault.StreamEnd.{StreamEnd}
use Rattle.cert_check.specs.declared.fault.StreamEnd.TheVariants as end
use Rattle.commands.specs.Tasks.{Files, Shape, Task}
use Rattle.commands.specs.Tasks.Files.{none, one, two, logged}
use Rattle.commands.specs.Tasks.Task.{project, associate, weigh, reconv}
use Rattle.commands.specs.Weights.{are_weights}
use Rattle.commands.specs.Replies.{TellsStatus, step_licence}
use Rattle.commands.specs.declared.reply.Reply.{Reply}
use Rattle.commands.specs.declared.status.LogRefusal.TheVariants.{Text, Wrong}
use Rattle.commands.specs.declared.status.Status.{Status}
use Rattle.commands.specs.declared.status.Status.TheVariants.{FileFault, SecondFile, Left, NoMemory, ReadFault, Refused, TooLong}
use Rattle.bensolve_main.specs.Check.{NoLog, FailsAt, StopsAt}
use Rattle.bensolve_main.specs.Outcome.{RepliesTo, HaltsFor}
use Rattle.bensolve_main.specs.Reading.{problem_limit, log_limit, GoodFile, TooMuch, NoFile, FileRefused, GoodRep, RepRefused, SourceFailed, TakenInWant}
use Rattle.bensolve_main.specs.Tasks.{Texts, texts_of, TellsFile, TellsLog, TellsTwo, TellsRep, TellsConv}
use Rattle.bensolve_main.specs.Tasks.Texts.{nothing, problem, problem_and_log, two_problems, representation, representation_and_log}
use Rattle.bensolve_main.specs.World.{Channel, Sources}
use Rattle.bensolve_main.specs.declared.reading.TextEnd.{TextEnd}
use Rattle.bensolve_main.specs.declared.reading.TextEnd.TheVariants.{Told, Halted}

-- ---- the shapes that words have
-- what is read goes with the files that are named
abbrev pub FilesFit : Texts → Files → Type 0
FilesFit nothing none = Unit {0}
FilesFit problem (one file) = Unit {0}
FilesFit problem (logged file log) = Unit {0}
FilesFit problem_and_log (two file second) = Unit {0}
FilesFit two_problems (two file second) = Unit {0}
FilesFit representation (one file) = Unit {0}
FilesFit representation (logged file log) = Unit {0}
FilesFit representation_and_log (two file second) = Unit {0}
FilesFit _ _ = ⊥

-- the number of columns or the word of the weights is one that is accepted
abbrev pub TaskFits : Task → Type 0
TaskFits (project columns) = (0 < columns) × (columns ≤ 19)
TaskFits (associate columns) = (0 < columns) × (columns ≤ 19)
TaskFits (weigh word) = IsTrue (are_weights word)
TaskFits _ = Unit {0}

-- both of a shape
pub record ShapeFits (s : Shape) : Type 0 where
  pub files : FilesFit (texts_of s.task) s.files
  pub task : TaskFits s.task

-- what a task reads
abbrev pub ReadsNothing : Task → Type 0
ReadsNothing t = texts_of t ≡ nothing

abbrev pub ReadsProblem : Task → Type 0
ReadsProblem t = texts_of t ≡ problem

abbrev pub ReadsLog : Task → Type 0
ReadsLog t = texts_of t ≡ problem_and_log

abbrev pub ReadsTwo : Task → Type 0
ReadsTwo t = texts_of t ≡ two_problems

abbrev pub ReadsRep : Task → Type 0
ReadsRep t = texts_of t ≡ representation

-- one text: a problem or a representation
abbrev pub ReadsOne : Task → Type 0
ReadsOne t = ReadsProblem t ⊎ ReadsRep t

-- ---- reading
-- the status of a first or of a second problem that is refused
abbrev pub file_status : Bool → AFileFault → Status
file_status false = FileFault
file_status true = SecondFile

-- memory was wanting, or the source failed
abbrev pub HaltsReading : Bool → ℕ → Status → Channel → Channel → Type 0
HaltsReading second limit s old new =
    ((s ≡ NoMemory) × TakenInWant limit old new) ⊎ SourceFailed second limit s old new

-- why the bytes of a text, the first or the second, were not read
abbrev pub EndsText : Bool → ℕ → TextEnd → Channel → Channel → Type 0
EndsText second limit (Told r) old new = TooMuch second limit r old new
EndsText second limit (Halted s) old new = HaltsReading second limit s old new

-- why there is no problem
abbrev pub EndsReading : Bool → TextEnd → Channel → Channel → Type 0
EndsReading second (Told r) old new =
    TooMuch second problem_limit r old new ⊎ NoFile (file_status second) r old new
EndsReading second (Halted s) old new = HaltsReading second problem_limit s old new

-- why there is no representation
abbrev pub EndsRep : TextEnd → Channel → Channel → Type 0
EndsRep (Told r) old new = RepRefused r old new
EndsRep (Halted s) old new = HaltsReading false problem_limit s old new

-- ---- the check of a log
-- a reply tells the end of the check of a log
abbrev pub TellsEnd : StreamEnd → Reply → Type 0
TellsEnd (end.Text f) r = TellsStatus (Refused (Text f)) r
TellsEnd (end.Refused (refusal.Wrong entry rule)) r = TellsStatus (Refused (Wrong entry rule)) r
TellsEnd (end.Refused (refusal.Left entry step l)) r =
    TellsStatus (Left (step_licence entry step l)) r
TellsEnd (end.TooLong read) r = TellsStatus (TooLong true read) r
TellsEnd _ r = ⊥

-- or there is none: memory was wanting, or the source failed
abbrev pub HaltsEnd : StreamEnd → Status → Type 0
HaltsEnd e s = (s ≡ NoMemory) ⊎ ((e ≡ end.Fault) × (s ≡ ReadFault true))

-- ---- what is told of the text after a problem
-- of the bytes of a log that gives no answer
abbrev pub RefusesLog : Problem → List ℕ → Reply → Type 0
RefusesLog file bytes r = NoLog bytes r ⊎ (FailsAt file bytes r ⊎ StopsAt file bytes r)

-- of a log: too many bytes, or what the task tells of them
abbrev pub LogTold : Task → Problem → Reply → Channel → Channel → Type 0
LogTold t file r old new =
    TooMuch true log_limit r old new
    ⊎ ((bytes : List ℕ) × ReadsWhole old.bytes new.bytes log_limit bytes
    × TellsLog t file bytes r)

-- of a second problem: that it is refused, or what the task tells of both
abbrev pub SecondTold : Task → Problem → Reply → Channel → Channel → Type 0
SecondTold t first r old new =
    TooMuch true problem_limit r old new ⊎ (NoFile SecondFile r old new
    ⊎ ((second : Problem) × GoodFile second old new × TellsTwo t first second r))

-- ---- what is told of the log after a representation
-- too many bytes, or what the task tells of them
abbrev pub ConvTold : Task → Rep → Reply → Channel → Channel → Type 0
ConvTold t rep r old new =
    TooMuch true log_limit r old new
    ⊎ ((bytes : List ℕ) × ReadsWhole old.bytes new.bytes log_limit bytes
    × TellsConv t rep bytes r)

-- ---- what is told of all texts
-- of a problem: that it is refused, or what the task tells of it
abbrev pub FileTold : Task → Bool → Reply → Channel → Channel → Type 0
FileTold t logs r old new =
    FileRefused r old new ⊎ ((file : Problem) × GoodFile file old new × TellsFile t logs file r)

-- the same of a representation
abbrev pub RepTold : Task → Bool → Reply → Channel → Channel → Type 0
RepTold t logs r old new =
    RepRefused r old new ⊎ ((rep : Rep) × GoodRep rep old new × TellsRep t logs rep r)

-- of the one text that a task reads
abbrev pub OneTold : Texts → Task → Bool → Reply → Channel → Channel → Type 0
OneTold problem t logs r old new = FileTold t logs r old new
OneTold representation t logs r old new = RepTold t logs r old new
OneTold _ t logs r old new = ⊥

-- of a problem and a log, and why nothing is told
abbrev pub WithLogTold : Task → Reply → Sources → Sources → Type 0
WithLogTold t r old new = RepliesTo problem_and_log t false r old new

abbrev pub WithLogHalts : Status → Sources → Sources → Type 0
WithLogHalts s old new = HaltsFor problem_and_log s old new

-- of two problems, and why nothing is told
abbrev pub TwoTold : Task → Reply → Sources → Sources → Type 0
TwoTold t r old new = RepliesTo two_problems t false r old new

abbrev pub TwoHalts : Status → Sources → Sources → Type 0
TwoHalts s old new = HaltsFor two_problems s old new

-- of a representation and a log, and why nothing is told
abbrev pub WithConvTold : Reply → Sources → Sources → Type 0
WithConvTold r old new = RepliesTo representation_and_log reconv false r old new

abbrev pub WithConvHalts : Status → Sources → Sources → Type 0
WithConvHalts s old new = HaltsFor representation_and_log s old new
