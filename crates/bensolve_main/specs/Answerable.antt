-- When nothing stands against an answer, and how a command then ends.
use Rattle.std.specs.Prelude.{◌⊎◌, ◌≡◌, ℕ, ◌≤◌, Bool, true, false, List, length, Some, None, IsTrue}
use Rattle.src_sink.specs.Outside.{Rose}
use Rattle.frac128.specs.Held.{is_held}
use Rattle.vlp_reader.specs.FirstFault.{Reads}
use Rattle.vlp_problem.specs.declared.problem.Problem.{Problem}
use Rattle.deriv_log.specs.Laws.{IsTextOf}
use Rattle.deriv_log.specs.declared.entry.Entry.{Entry}
use Rattle.log_versions.specs.WrittenEvents.{log_failure}
use Rattle.commands.specs.Paths.{writes_log}
use Rattle.commands.specs.Tasks.{Task, Shape}
use Rattle.commands.specs.Tasks.Task.{solve, dual, sample, project, associate, meet, sum, join, map, weights, weigh, vertices, facets}
use Rattle.rep_text.specs.RepText.{IsRepText}
use Rattle.rep_text.specs.declared.rep.Rep.{Rep}
use Rattle.replies.specs.Checking.{CanReconvert}
use Rattle.replies.specs.Turning.{CanTurn}
use Rattle.replies.specs.Calculus.{CanMeet, CanSum, CanJoin, CanMap}
use Rattle.replies.specs.Projected.{IsProjectable}
use Rattle.solver.specs.Replies.{IsSolvable}
use Rattle.replies.specs.Weights.{CanWeigh}
use Rattle.commands.specs.declared.status.Status.{Status}
use Rattle.commands.specs.declared.status.Status.TheVariants.{Done, NoMemory}
use Rattle.bensolve_main.specs.Reading.{problem_limit, log_limit}
use Rattle.bensolve_main.specs.Sample.{IsSampleHeld}
use Rattle.bensolve_main.specs.Tasks.{Texts, texts_of}
use Rattle.bensolve_main.specs.Tasks.Texts.{nothing, problem, problem_and_log, two_problems, representation, representation_and_log}
use Rattle.bensolve_main.specs.World.{Channel, World}

-- ---- of each task
-- nothing stands against an answer without a text,
abbrev pub AnswersAlone : Task → Type 0
AnswersAlone (sample number) = IsSampleHeld number
AnswersAlone _ = ⊥

-- of a problem,
abbrev pub AnswersFile : Task → Problem → Type 0
AnswersFile solve file = IsSolvable file
AnswersFile dual file = IsSolvable file
AnswersFile (project k) file = IsProjectable k file
AnswersFile (associate k) file = k ≤ file.cols
AnswersFile map file = CanMap file
AnswersFile weights file = IsSolvable file
AnswersFile (weigh word) file = CanWeigh word file
AnswersFile _ file = ⊥

-- of two problems,
abbrev pub AnswersTwo : Task → Problem → Problem → Type 0
AnswersTwo meet a b = CanMeet a b
AnswersTwo sum a b = CanSum a b
AnswersTwo join a b = CanJoin a b
AnswersTwo _ a b = ⊥

-- and of a representation
abbrev pub AnswersRep : Task → Rep → Type 0
AnswersRep vertices rep = CanTurn false rep
AnswersRep facets rep = CanTurn true rep
AnswersRep _ rep = ⊥

-- ---- of the outside
-- a source told these bytes, within the limit, and did not fail
pub record ToldWhole (limit : ℕ) (bytes : List ℕ) (old new : Channel) : Type 0 where
  pub told : old.bytes ≡ Some bytes
  pub within : length bytes ≤ limit
  pub steady : ¬ (Rose old.faults new.faults)

-- .. and they read as some problem
pub record ToldFile (bytes : List ℕ) (old new : Channel) : Type 0 where
  pub whole : ToldWhole problem_limit bytes old new
  pub file : Problem
  pub reads : Reads bytes file

-- .. and they are the text of some representation
pub record ToldRep (bytes : List ℕ) (old new : Channel) : Type 0 where
  pub whole : ToldWhole problem_limit bytes old new
  pub rep : Rep
  pub is_text : IsRepText bytes rep

-- the outputs that are called did not fail
pub record SteadyOutputs (logs : Bool) (old new : World) : Type 0 where
  pub out : ¬ (Rose old.out.faults new.out.faults)
  pub log_out : IsTrue logs → ¬ (Rose old.log_out.faults new.log_out.faults)

-- ---- both, by what is read
-- a problem was told, and of each as which it reads there is an answer
pub record HonestFile (t : Task) (old new : World) : Type 0 where
  pub bytes : List ℕ
  pub told : ToldFile bytes old.problem new.problem
  pub answers : (file : Problem) → Reads bytes file → AnswersFile t file

-- a problem and a log were told, and no event of the log's entries fails
pub record HonestLog (old new : World) : Type 0 where
  pub bytes : List ℕ
  pub told : ToldFile bytes old.problem new.problem
  pub log_bytes : List ℕ
  pub log_told : ToldWhole log_limit log_bytes old.log_in new.log_in
  pub entries : List Entry
  pub is_log : IsTextOf log_bytes entries
  pub passes : (file : Problem) → Reads bytes file → log_failure is_held file entries ≡ None

-- two problems were told, and of each two as which they read there is an answer
pub record HonestTwo (t : Task) (old new : World) : Type 0 where
  pub bytes : List ℕ
  pub told : ToldFile bytes old.problem new.problem
  pub second_bytes : List ℕ
  pub second_told : ToldFile second_bytes old.log_in new.log_in
  pub answers : (a b : Problem) → Reads bytes a → Reads second_bytes b → AnswersTwo t a b

-- a representation was told, and of each of which the bytes are the text there is an answer
pub record HonestRep (t : Task) (old new : World) : Type 0 where
  pub bytes : List ℕ
  pub told : ToldRep bytes old.problem new.problem
  pub answers : (rep : Rep) → IsRepText bytes rep → AnswersRep t rep

-- a representation and the log of a conversion were told, and no event of the log's entries fails
pub record HonestConv (old new : World) : Type 0 where
  pub bytes : List ℕ
  pub told : ToldRep bytes old.problem new.problem
  pub log_bytes : List ℕ
  pub log_told : ToldWhole log_limit log_bytes old.log_in new.log_in
  pub can : (rep : Rep) → IsRepText bytes rep → CanReconvert rep log_bytes

-- the outside told what a task reads, and nothing stands against an answer
abbrev pub HonestTexts : Texts → Task → World → World → Type 0
HonestTexts nothing t old new = AnswersAlone t
HonestTexts problem t old new = HonestFile t old new
HonestTexts problem_and_log t old new = HonestLog old new
HonestTexts two_problems t old new = HonestTwo t old new
HonestTexts representation t old new = HonestRep t old new
HonestTexts representation_and_log t old new = HonestConv old new

-- nothing stands against an answer: the outside did not fail in this call, what it told is right
-- and within its limits, and no exact number that is wanted is too large to be held
pub record Honest (shape : Shape) (old new : World) : Type 0 where
  pub texts : HonestTexts (texts_of shape.task) shape.task old new
  pub outputs : SteadyOutputs (writes_log shape.files) old new

-- how a command then ends: with an answer or for want of memory
abbrev pub Completes : Status → Type 0
Completes result = (result ≡ Done) ⊎ (result ≡ NoMemory)
