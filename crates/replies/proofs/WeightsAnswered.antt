-- What the replies on weights say: with an answer where nothing stands against it, never of words
-- without a shape, and without a log.
use Rattle.std.proofs.Common.{◌≡◌, ◌⊎◌, inl, inr, ℕ, List, length, None, ap, ◌∙◌, subst, arith}
use Rattle.exact_field.specs.Rational.{ℚ}
use Rattle.vlp_problem.specs.declared.problem.Problem.{Problem}
use Rattle.commands.proofs.WeightWords.{one_list}
use Rattle.solver.specs.Replies.{IsSolvable, Unsolved}
use Rattle.solver.proofs.Replies.{unsolved_answered, unsolved_never_words, unsolved_quiet}
use Rattle.commands.specs.Codes.{code_of}
use Rattle.commands.specs.declared.reply.Reply.{Reply}
use Rattle.commands.specs.declared.status.Status.{Status}
use Rattle.commands.specs.declared.status.Status.TheVariants.{Done, Words}
use Rattle.replies.specs.Weights.{WeightsVerdict, WeightsCounted, WeighingDone, WeighingStopped, WeighingTold, WeighVerdict, CanWeigh}
use Rattle.weighing.specs.Stages.{StopsWeighing}

-- ---- weights
pub weights_answered : (file : Problem) (r : Reply) → IsSolvable file → WeightsVerdict file r → r.status ≡ Done
weights_answered file r solvable (inl told) = told.status
weights_answered file r solvable (inr unsolved) = absurd (unsolved_answered file r solvable unsolved)

pub weights_never_words : (file : Problem) (r : Reply) → WeightsVerdict file r → Words ≡ r.status → ⊥
weights_never_words file r (inl told) same = omega (arith, ap (λ (s : Status). code_of s) (same ∙ told.status))
weights_never_words file r (inr unsolved) same = unsolved_never_words file r unsolved same

pub weights_quiet : (file : Problem) (r : Reply) → WeightsVerdict file r → r.log ≡ None
weights_quiet file r (inl told) = told.no_log
weights_quiet file r (inr unsolved) = unsolved_quiet file r unsolved

-- ---- weigh
pub weigh_answered : (word : List ℕ) (file : Problem) (r : Reply) → CanWeigh word file → WeighVerdict word file r → r.status ≡ Done
weigh_answered word file r can verdict = counted verdict.told
  where
    same : verdict.weights ≡ can.weights
    same = one_list word verdict.weights can.weights verdict.of can.of

    done : WeighingTold verdict.weights file r ⊎ (WeighingStopped verdict.weights file r ⊎ Unsolved file r) → r.status ≡ Done
    done (inl told) = told.status
    done (inr (inl stopped)) = absurd (can.held stopped.solution stopped.right stopped.item stopped.left
        (subst (λ (ws : List ℚ). StopsWeighing file stopped.solution.answer ws stopped.item stopped.left) same stopped.stops))
    done (inr (inr unsolved)) = absurd (unsolved_answered file r can.solvable unsolved)

    counted : WeightsCounted verdict.weights file r ⊎ WeighingDone verdict.weights file r → r.status ≡ Done
    counted (inl other) = absurd (other.differ (ap (λ (ws : List ℚ). length ws) same ∙ can.counted))
    counted (inr found) = done found.told

pub weigh_never_words : (word : List ℕ) (file : Problem) (r : Reply) → WeighVerdict word file r → Words ≡ r.status → ⊥
weigh_never_words word file r verdict same = counted verdict.told
  where
    done : WeighingTold verdict.weights file r ⊎ (WeighingStopped verdict.weights file r ⊎ Unsolved file r) → ⊥
    done (inl told) = omega (arith, ap (λ (s : Status). code_of s) (same ∙ told.status))
    done (inr (inl stopped)) = omega (arith, ap (λ (s : Status). code_of s) (same ∙ stopped.status))
    done (inr (inr unsolved)) = unsolved_never_words file r unsolved same

    counted : WeightsCounted verdict.weights file r ⊎ WeighingDone verdict.weights file r → ⊥
    counted (inl other) = omega (arith, ap (λ (s : Status). code_of s) (same ∙ other.status))
    counted (inr found) = done found.told

pub weigh_quiet : (word : List ℕ) (file : Problem) (r : Reply) → WeighVerdict word file r → r.log ≡ None
weigh_quiet word file r verdict = counted verdict.told
  where
    done : WeighingTold verdict.weights file r ⊎ (WeighingStopped verdict.weights file r ⊎ Unsolved file r) → r.log ≡ None
    done (inl told) = told.no_log
    done (inr (inl stopped)) = stopped.told.no_log
    done (inr (inr unsolved)) = unsolved_quiet file r unsolved

    counted : WeightsCounted verdict.weights file r ⊎ WeighingDone verdict.weights file r → r.log ≡ None
    counted (inl other) = other.told.no_log
    counted (inr found) = done found.told
