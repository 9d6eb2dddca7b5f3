-- How each task reads, and what it says of what was read.
use Rattle.std.specs.Prelude.{ℕ, Bool, List}
use Rattle.vlp_problem.specs.declared.problem.Problem.{Problem}
use Rattle.commands.specs.Tasks.{Task}
use Rattle.commands.specs.Tasks.Task.{check, relog, solve, dual, sample, project, associate, meet, sum, join, map, weights, weigh, vertices, facets, reconv}
use Rattle.rep_text.specs.declared.rep.Rep.{Rep}
use Rattle.replies.specs.Checking.{ReconvVerdict}
use Rattle.replies.specs.Turning.{FacetsVerdict, VerticesVerdict}
use Rattle.replies.specs.Calculus.{MeetVerdict, SumVerdict, JoinVerdict, MapVerdict}
use Rattle.replies.specs.Projected.{ProjectVerdict, AssociateVerdict}
use Rattle.solver.specs.Replies.{DualVerdict, SolveVerdict}
use Rattle.commands.specs.declared.reply.Reply.{Reply}
use Rattle.replies.specs.Weights.{WeightsVerdict, WeighVerdict}
use Rattle.bensolve_main.specs.Check.{CheckVerdict}
use Rattle.bensolve_main.specs.Relog.{RelogVerdict}
use Rattle.bensolve_main.specs.Sample.{SampleVerdict}

-- what is read: nothing; a problem; a problem and then a log; two problems; a representation; a
-- representation and then the log of a conversion
pub data Texts : Type 0 where
  nothing : Texts
  problem : Texts
  problem_and_log : Texts
  two_problems : Texts
  representation : Texts
  representation_and_log : Texts

-- what each task reads
abbrev pub texts_of : Task → Texts
texts_of (sample number) = nothing
texts_of check = problem_and_log
texts_of relog = problem_and_log
texts_of meet = two_problems
texts_of sum = two_problems
texts_of join = two_problems
texts_of vertices = representation
texts_of facets = representation
texts_of reconv = representation_and_log
texts_of _ = problem

-- what is told without a text
abbrev pub TellsAlone : Task → Reply → Type 0
TellsAlone (sample number) r = SampleVerdict number r
TellsAlone _ r = ⊥

-- what is told of a problem, with a log that is written or without
abbrev pub TellsFile : Task → Bool → Problem → Reply → Type 0
TellsFile solve logs file r = SolveVerdict logs file r
TellsFile dual logs file r = DualVerdict logs file r
TellsFile (project k) logs file r = ProjectVerdict k logs file r
TellsFile (associate k) logs file r = AssociateVerdict k file r
TellsFile map logs file r = MapVerdict file r
TellsFile weights logs file r = WeightsVerdict file r
TellsFile (weigh word) logs file r = WeighVerdict word file r
TellsFile _ logs file r = ⊥

-- what is told of a problem and of the bytes of a log
abbrev pub TellsLog : Task → Problem → List ℕ → Reply → Type 0
TellsLog check file bytes r = CheckVerdict file bytes r
TellsLog relog file bytes r = RelogVerdict file bytes r
TellsLog _ file bytes r = ⊥

-- what is told of two problems
abbrev pub TellsTwo : Task → Problem → Problem → Reply → Type 0
TellsTwo meet a b r = MeetVerdict a b r
TellsTwo sum a b r = SumVerdict a b r
TellsTwo join a b r = JoinVerdict a b r
TellsTwo _ a b r = ⊥

-- what is told of a representation, with a log that is written or without
abbrev pub TellsRep : Task → Bool → Rep → Reply → Type 0
TellsRep vertices logs rep r = VerticesVerdict logs rep r
TellsRep facets logs rep r = FacetsVerdict logs rep r
TellsRep _ logs rep r = ⊥

-- what is told of a representation and of the bytes of a log
abbrev pub TellsConv : Task → Rep → List ℕ → Reply → Type 0
TellsConv reconv rep bytes r = ReconvVerdict rep bytes r
TellsConv _ rep bytes r = ⊥
