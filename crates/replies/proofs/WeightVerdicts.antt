-- From the replies of the steps to the verdicts.
use Rattle.std.proofs.Common.{◌≡◌, ◌⊎◌, inl, inr, ℕ, List, length, Result, Ok, Err, IfOk}
use Rattle.src_sink.specs.declared.items.NoMemory.{NoMemory}
use Rattle.exact_field.specs.Rational.{ℚ}
use Rattle.exact_field.specs.declared.op.Left.{Left}
use Rattle.frac128.specs.declared.frac.Frac.{Frac}
use Rattle.vlp_problem.specs.declared.problem.Problem.{Problem}
use Rattle.commands.specs.Weights.{AreWeightsOf}
use Rattle.solver.specs.Replies.{Unsolved}
use Rattle.solver.specs.Solving.{IsSolutionOf}
use Rattle.solver.specs.declared.end.Solution.{Solution}
use Rattle.commands.specs.Replies.{TellsFault}
use Rattle.commands.specs.declared.reply.Reply.{Reply}
use Rattle.commands.specs.declared.status.Status.TheVariants.{WeighLeft, Weights}
use Rattle.replies.specs.Weights.{WeightsTold, WeightsVerdict, WeightsCounted, WeighingStopped, WeighingTold, WeighVerdict}
use Rattle.weighing.specs.Stages.{StopsWeighing}

-- ---- weights
pub sets_told : (file : Problem) (x : Result Reply NoMemory) → IfOk x (WeightsTold file) → IfOk x (WeightsVerdict file)
sets_told file (Ok r) h = inl h
sets_told file (Err e) h = tt

pub sets_unsolved : (file : Problem) (x : Result Reply NoMemory) → IfOk x (Unsolved file) → IfOk x (WeightsVerdict file)
sets_unsolved file (Ok r) h = inr h
sets_unsolved file (Err e) h = tt

-- ---- weigh
pub counted_told : (weights : List ℚ) (file : Problem) (x : Result Reply NoMemory) → (length weights ≡ file.objs → ⊥) →
    IfOk x (λ r. r.status ≡ Weights (length weights) file.objs) → IfOk x TellsFault → IfOk x (WeightsCounted weights file)
counted_told weights file (Ok r) differ status told = record { status = status; differ = differ; told = told }
counted_told weights file (Err e) differ status told = tt

pub stopped_told : (weights : List ℚ) (file : Problem) (solution : Solution) (item : ℕ) (left : Left Frac) (x : Result Reply NoMemory) → IsSolutionOf file solution →
    StopsWeighing file solution.answer weights item left → IfOk x (λ r. r.status ≡ WeighLeft item left) → IfOk x TellsFault →
    IfOk x (λ r. WeighingTold weights file r ⊎ WeighingStopped weights file r)
stopped_told weights file solution item left (Ok r) right stops status told =
    inr (record { solution = solution; right = right; item = item; left = left; status = status; stops = stops; told = told })
stopped_told weights file solution item left (Err e) right stops status told = tt

pub verdict_counted : (word : List ℕ) (weights : List ℚ) (file : Problem) (x : Result Reply NoMemory) → AreWeightsOf word weights → IfOk x (WeightsCounted weights file) →
    IfOk x (WeighVerdict word file)
verdict_counted word weights file (Ok r) of h = record { weights = weights; of = of; told = inl h }
verdict_counted word weights file (Err e) of h = tt

pub verdict_weighed : (word : List ℕ) (weights : List ℚ) (file : Problem) (x : Result Reply NoMemory) → AreWeightsOf word weights → length weights ≡ file.objs →
    IfOk x (λ r. WeighingTold weights file r ⊎ WeighingStopped weights file r) → IfOk x (WeighVerdict word file)
verdict_weighed word weights file (Ok r) of counted h = record { weights = weights; of = of; told = inr (record { counted = counted; told = by h }) }
  where
    by : WeighingTold weights file r ⊎ WeighingStopped weights file r → WeighingTold weights file r ⊎ (WeighingStopped weights file r ⊎ Unsolved file r)
    by (inl t) = inl t
    by (inr s) = inr (inl s)
verdict_weighed word weights file (Err e) of counted h = tt

pub verdict_unsolved : (word : List ℕ) (weights : List ℚ) (file : Problem) (x : Result Reply NoMemory) → AreWeightsOf word weights → length weights ≡ file.objs →
    IfOk x (Unsolved file) → IfOk x (WeighVerdict word file)
verdict_unsolved word weights file (Ok r) of counted h = record { weights = weights; of = of; told = inr (record { counted = counted; told = inr (inr h) }) }
verdict_unsolved word weights file (Err e) of counted h = tt
