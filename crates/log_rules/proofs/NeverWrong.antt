-- The first failure of a log that meets its rules.
use Rattle.std.proofs.Common.{◌≡◌, ℕ, suc, List, [], ◌∷◌, ◌++◌, Bool, true, false, length, Option, Some, None, refl, sym, ap, subst, true≢false}
use Rattle.std.specs.Prelude.{⊤}
use Rattle.std.specs.Option.{is_some}
use Rattle.exact_field.specs.Field.{exact}
use Rattle.exact_field.specs.Rational.{ℚ}
use Rattle.vlp_problem.specs.declared.problem.Problem.{Problem}
use Rattle.deriv_log.specs.declared.entry.Entry.{Entry}
use Rattle.log_rules.specs.Events.{Event, Failure, first_failure}
use Rattle.log_rules.specs.Events.Event.{test, step}
use Rattle.log_rules.specs.Events.Failure.{wrong, left as overflows}
use Rattle.log_rules.specs.LogEvents.{Failing, first_failing, events}
use Rattle.log_rules.proofs.LogHeld.{meets_give_events}
use Rattle.log_rules.proofs.PassedTests.{Passed, passed_of}
use Rattle.log_rules.specs.Never.{NeverWrong}

-- a failure, if there is one, is a step
abbrev IsStep : Option Failure → Type 0
IsStep None = ⊤
IsStep (Some (wrong r)) = ⊥
IsStep (Some (overflows k o a b)) = ⊤

-- .. and that of a log
abbrev IsStepIn : Option Failing → Type 0
IsStepIn None = ⊤
IsStepIn (Some f) = IsStep (Some f.failure)

first_step : (holds : ℚ → Bool) (n : ℕ) (es : List Event) → Passed es → IsStep (first_failure holds n es)
first_step holds n [] h = tt
first_step holds n (test r true ∷ es) h = first_step holds n es h.1
first_step holds n (test r false ∷ es) h = absurd (true≢false (sym h.0))
first_step holds n (step o a b ∷ es) h =
    elim (holds (exact o a b)) as (λ x. IsStep (elim x [ true ↦ first_failure holds (suc n) es | false ↦ Some (overflows n o a b) ])) [
      | true ↦ first_step holds (suc n) es h
      | false ↦ tt
    ]

-- after the entries before: where all numbers are held nothing fails, so all tests are passed
first_step_in : (holds : ℚ → Bool) (file : Problem) (before entries : List Entry) → first_failing (λ _. true) file before entries ≡ None →
    IsStepIn (first_failing holds file before entries)
first_step_in holds file before [] h = tt
first_step_in holds file before (e ∷ entries) h =
    go (first_step_in holds file (before ++ e ∷ []) entries) (first_failure (λ _. true) 1 (events file before e)) refl h
    (first_failure holds 1 (events file before e)) (first_step holds 1 (events file before e))
  where
    go : (first_failing (λ _. true) file (before ++ e ∷ []) entries ≡ None → IsStepIn (first_failing holds file (before ++ e ∷ []) entries)) →
        (o : Option Failure) → first_failure (λ _. true) 1 (events file before e) ≡ o →
        ◌≡◌ {A = Option Failing} (elim o [
          | Some x ↦ Some (record { entry = suc (length before); failure = x })
          | None ↦ first_failing (λ _. true) file (before ++ e ∷ []) entries
        ]) None → (p : Option Failure) → (Passed (events file before e) → IsStep p) →
        IsStepIn (elim p [
          | Some x ↦ Some (record { entry = suc (length before); failure = x })
          | None ↦ first_failing holds file (before ++ e ∷ []) entries
        ])
    go further (Some x) same k p of = absurd (true≢false (ap (λ (f : Option Failing). is_some f) k))
    go further None same k None of = further k
    go further None same k (Some x) of = of (passed_of (λ _. true) 1 (events file before e) same)

pub never_wrong : NeverWrong
never_wrong holds file entries number r meet f =
    subst (λ (o : Option Failing). IsStepIn o) f (first_step_in holds file [] entries (meets_give_events file entries meet))
