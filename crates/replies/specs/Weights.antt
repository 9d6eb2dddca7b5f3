-- What `weights` and `weigh` reply of a problem.
use Rattle.std.specs.Prelude.{◌≡◌, ◌⊎◌, ℕ, List, length, None}
use Rattle.exact_field.specs.Rational.{ℚ}
use Rattle.exact_field.specs.declared.op.Left.{Left}
use Rattle.frac128.specs.declared.frac.Frac.{Frac}
use Rattle.vlp_problem.specs.declared.problem.Problem.{Problem}
use Rattle.commands.specs.Weights.{AreWeightsOf}
use Rattle.solver.specs.Replies.{IsSolvable, Unsolved}
use Rattle.solver.specs.Solving.{IsSolutionOf}
use Rattle.solver.specs.declared.end.Solution.{Solution}
use Rattle.commands.specs.Replies.{TellsFault}
use Rattle.commands.specs.declared.reply.Reply.{Reply}
use Rattle.commands.specs.declared.status.Status.TheVariants.{Done, WeighLeft, Weights}
use Rattle.weighing.specs.Stages.{IsWeighedFrom, StopsWeighing}
use Rattle.weighing.specs.Text.{weighed_text, weights_text}
use Rattle.weighing.specs.Weighing.{AreWeightSets, IsWeighed}
use Rattle.weighing.specs.declared.weighed.Weighed.{Weighed}

-- ---- weights
-- the text tells of the answer of a solution each point and the facets whose weights make it least
pub record WeightsTold (file : Problem) (r : Reply) : Type 0 where
  pub status : r.status ≡ Done
  pub solution : Solution
  pub right : IsSolutionOf file solution
  pub sets : AreWeightSets file solution.answer
  pub text : r.text ≡ weights_text solution.answer
  pub no_log : r.log ≡ None

-- what `weights` replies
abbrev pub WeightsVerdict : Problem → Reply → Type 0
WeightsVerdict file r = WeightsTold file r ⊎ Unsolved file r

-- ---- weigh
-- there is another number of weights than of objectives
pub record WeightsCounted (weights : List ℚ) (file : Problem) (r : Reply) : Type 0 where
  pub status : r.status ≡ Weights (length weights) file.objs
  pub differ : length weights ≡ file.objs → ⊥
  pub told : TellsFault r

-- a product of the weights has an operation whose exact result is not held
pub record WeighingStopped (weights : List ℚ) (file : Problem) (r : Reply) : Type 0 where
  pub solution : Solution
  pub right : IsSolutionOf file solution
  pub item : ℕ
  pub left : Left Frac
  pub status : r.status ≡ WeighLeft item left
  pub stops : StopsWeighing file solution.answer weights item left
  pub told : TellsFault r

-- the text tells what is least for the weights, by the answer of a solution
pub record WeighingTold (weights : List ℚ) (file : Problem) (r : Reply) : Type 0 where
  pub status : r.status ≡ Done
  pub solution : Solution
  pub right : IsSolutionOf file solution
  pub weighed : Weighed
  pub from : IsWeighedFrom file solution.answer weights weighed
  pub least : IsWeighed file solution.answer weights weighed
  pub text : r.text ≡ weighed_text solution.answer weighed
  pub no_log : r.log ≡ None

-- there are as many weights as objectives, and a weighing is told, or why there is none
pub record WeighingDone (weights : List ℚ) (file : Problem) (r : Reply) : Type 0 where
  pub counted : length weights ≡ file.objs
  pub told : WeighingTold weights file r ⊎ (WeighingStopped weights file r ⊎ Unsolved file r)

-- the weights are those that the word writes
pub record WeighVerdict (word : List ℕ) (file : Problem) (r : Reply) : Type 0 where
  pub weights : List ℚ
  pub of : AreWeightsOf word weights
  pub told : WeightsCounted weights file r ⊎ WeighingDone weights file r

-- nothing stands against an answer
pub record CanWeigh (word : List ℕ) (file : Problem) : Type 0 where
  pub weights : List ℚ
  pub of : AreWeightsOf word weights
  pub counted : length weights ≡ file.objs
  pub solvable : IsSolvable file
  pub held : (solution : Solution) → IsSolutionOf file solution → (item : ℕ) (left : Left Frac) →
      StopsWeighing file solution.answer weights item left → ⊥
