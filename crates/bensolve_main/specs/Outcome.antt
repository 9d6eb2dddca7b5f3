-- What the result of a command says, by the stages of its work: the problem or representation is read,
-- then the log or the second problem, then the task is done, and then its reply is written.
use Rattle.std.specs.Prelude.{◌⊎◌, ◌≡◌, Bool, true, false, List, ℕ}
use Rattle.vlp_problem.specs.declared.problem.Problem.{Problem}
use Rattle.rep_text.specs.declared.rep.Rep.{Rep}
use Rattle.cert_check.specs.Streams.{ReadsWhole}
use Rattle.commands.specs.Paths.{writes_log}
use Rattle.commands.specs.Tasks.{Task, Shape}
use Rattle.commands.specs.declared.reply.Reply.{Reply}
use Rattle.commands.specs.declared.status.Status.{Status}
use Rattle.commands.specs.declared.status.Status.TheVariants.{NoMemory, SecondFile}
use Rattle.bensolve_main.specs.Deliver.{Delivers}
use Rattle.bensolve_main.specs.Reading.{problem_limit, log_limit, GoodFile, TooMuch, NoFile, FileRefused, GoodRep, RepRefused, SourceFailed, TakenInWant}
use Rattle.bensolve_main.specs.Tasks.{Texts, texts_of, TellsAlone, TellsFile, TellsLog, TellsTwo, TellsRep, TellsConv}
use Rattle.bensolve_main.specs.Tasks.Texts.{nothing, problem, problem_and_log, two_problems, representation, representation_and_log}
use Rattle.bensolve_main.specs.World.{Sources, World, Uncalled, sources_of}

-- ---- the problem
-- the problem is refused, and nothing else was read
pub record Refuses (r : Reply) (old new : Sources) : Type 0 where
  pub refused : FileRefused r old.problem new.problem
  pub log_in : Uncalled old.log_in new.log_in

-- the problem was read, nothing else, and the task tells this of it
pub record TellsOfFile (t : Task) (logs : Bool) (r : Reply) (old new : Sources) : Type 0 where
  pub file : Problem
  pub good : GoodFile file old.problem new.problem
  pub log_in : Uncalled old.log_in new.log_in
  pub verdict : TellsFile t logs file r

-- ---- the text after it
-- after a problem, more bytes of this text were taken than its limit
pub record SecondTooMuch (limit : ℕ) (r : Reply) (old new : Sources) : Type 0 where
  pub file : Problem
  pub good : GoodFile file old.problem new.problem
  pub much : TooMuch true limit r old.log_in new.log_in

-- a log was read to its end, and the task tells this of both
pub record TellsOfLog (t : Task) (r : Reply) (old new : Sources) : Type 0 where
  pub file : Problem
  pub good : GoodFile file old.problem new.problem
  pub bytes : List ℕ
  pub read : ReadsWhole old.log_in.bytes new.log_in.bytes log_limit bytes
  pub verdict : TellsLog t file bytes r

-- a second problem is refused
pub record RefusesSecond (r : Reply) (old new : Sources) : Type 0 where
  pub file : Problem
  pub good : GoodFile file old.problem new.problem
  pub refused : NoFile SecondFile r old.log_in new.log_in

-- two problems were read, and the task tells this of both
pub record TellsOfTwo (t : Task) (r : Reply) (old new : Sources) : Type 0 where
  pub first : Problem
  pub good : GoodFile first old.problem new.problem
  pub second : Problem
  pub good_second : GoodFile second old.log_in new.log_in
  pub verdict : TellsTwo t first second r

-- ---- a representation
-- it is refused, and nothing else was read
pub record RefusesRep (r : Reply) (old new : Sources) : Type 0 where
  pub refused : RepRefused r old.problem new.problem
  pub log_in : Uncalled old.log_in new.log_in

-- it was read, nothing else, and the task tells this of it
pub record TellsOfRep (t : Task) (logs : Bool) (r : Reply) (old new : Sources) : Type 0 where
  pub rep : Rep
  pub good : GoodRep rep old.problem new.problem
  pub log_in : Uncalled old.log_in new.log_in
  pub verdict : TellsRep t logs rep r

-- after it more bytes of a log were taken than its limit
pub record ConvTooMuch (r : Reply) (old new : Sources) : Type 0 where
  pub rep : Rep
  pub good : GoodRep rep old.problem new.problem
  pub much : TooMuch true log_limit r old.log_in new.log_in

-- a log was read to its end, and the task tells this of both
pub record TellsOfConv (t : Task) (r : Reply) (old new : Sources) : Type 0 where
  pub rep : Rep
  pub good : GoodRep rep old.problem new.problem
  pub bytes : List ℕ
  pub read : ReadsWhole old.log_in.bytes new.log_in.bytes log_limit bytes
  pub verdict : TellsConv t rep bytes r

-- ---- what a reply says of what was read
-- by what is read: a text is refused, or the task tells this of what was read
abbrev pub RepliesTo : Texts → Task → Bool → Reply → Sources → Sources → Type 0
RepliesTo nothing t logs r old new =
    TellsAlone t r × Uncalled old.problem new.problem × Uncalled old.log_in new.log_in
RepliesTo problem t logs r old new = Refuses r old new ⊎ TellsOfFile t logs r old new
RepliesTo problem_and_log t logs r old new =
    Refuses r old new ⊎ (SecondTooMuch log_limit r old new ⊎ TellsOfLog t r old new)
RepliesTo two_problems t logs r old new =
    Refuses r old new ⊎ (SecondTooMuch problem_limit r old new
    ⊎ (RefusesSecond r old new ⊎ TellsOfTwo t r old new))
RepliesTo representation t logs r old new = RefusesRep r old new ⊎ TellsOfRep t logs r old new
RepliesTo representation_and_log t logs r old new =
    RefusesRep r old new ⊎ (ConvTooMuch r old new ⊎ TellsOfConv t r old new)

-- what is replied where the words have this shape
abbrev pub Replies : Shape → Reply → Sources → Sources → Type 0
Replies s r old new = RepliesTo (texts_of s.task) s.task (writes_log s.files) r old new

-- ---- why a command halts without a reply
-- the source of the problem or representation failed, and nothing else was read
pub record FirstFailed (s : Status) (old new : Sources) : Type 0 where
  pub failed : SourceFailed false problem_limit s old.problem new.problem
  pub log_in : Uncalled old.log_in new.log_in

-- after a problem, the source of the text after it failed
pub record SecondFailed (limit : ℕ) (s : Status) (old new : Sources) : Type 0 where
  pub file : Problem
  pub good : GoodFile file old.problem new.problem
  pub failed : SourceFailed true limit s old.log_in new.log_in

-- after a representation, the source of the log failed
pub record ConvFailed (s : Status) (old new : Sources) : Type 0 where
  pub rep : Rep
  pub good : GoodRep rep old.problem new.problem
  pub failed : SourceFailed true log_limit s old.log_in new.log_in

-- by what is read, which source failed
abbrev pub Fails : Texts → Status → Sources → Sources → Type 0
Fails nothing s old new = ⊥
Fails problem s old new = FirstFailed s old new
Fails problem_and_log s old new = FirstFailed s old new ⊎ SecondFailed log_limit s old new
Fails two_problems s old new = FirstFailed s old new ⊎ SecondFailed problem_limit s old new
Fails representation s old new = FirstFailed s old new
Fails representation_and_log s old new = FirstFailed s old new ⊎ ConvFailed s old new

-- memory was wanting, and no source but the first was called
pub record FirstWanting (old new : Sources) : Type 0 where
  pub taken : TakenInWant problem_limit old.problem new.problem
  pub log_in : Uncalled old.log_in new.log_in

-- after a problem, memory was wanting at the text after it
pub record SecondWanting (limit : ℕ) (old new : Sources) : Type 0 where
  pub file : Problem
  pub good : GoodFile file old.problem new.problem
  pub taken : TakenInWant limit old.log_in new.log_in

-- after a representation, memory was wanting at the log
pub record ConvWanting (old new : Sources) : Type 0 where
  pub rep : Rep
  pub good : GoodRep rep old.problem new.problem
  pub taken : TakenInWant log_limit old.log_in new.log_in

-- by what is read, where memory was wanting
abbrev pub Wants : Texts → Sources → Sources → Type 0
Wants nothing old new = Uncalled old.problem new.problem × Uncalled old.log_in new.log_in
Wants problem old new = FirstWanting old new
Wants problem_and_log old new = FirstWanting old new ⊎ SecondWanting log_limit old new
Wants two_problems old new = FirstWanting old new ⊎ SecondWanting problem_limit old new
Wants representation old new = FirstWanting old new
Wants representation_and_log old new = FirstWanting old new ⊎ ConvWanting old new

-- memory was wanting, or a source failed
abbrev pub HaltsFor : Texts → Status → Sources → Sources → Type 0
HaltsFor texts s old new = ((s ≡ NoMemory) × Wants texts old new) ⊎ Fails texts s old new

-- a command halted without a reply, and no output was called
pub record Halts (shape : Shape) (result : Status) (old new : World) : Type 0 where
  pub cause : HaltsFor (texts_of shape.task) result (sources_of old) (sources_of new)
  pub out : Uncalled old.out new.out
  pub log_out : Uncalled old.log_out new.log_out

-- ---- a run
-- some reply was to be made, and this became of it, or the command halted
abbrev pub Outcome : Shape → Status → World → World → Type 0
Outcome shape result old new =
    ((r : Reply) × Replies shape r (sources_of old) (sources_of new) × Delivers r result old new)
    ⊎ Halts shape result old new
