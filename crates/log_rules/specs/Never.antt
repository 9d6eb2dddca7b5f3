-- What the first failure of a log that meets its rules can be.
use Rattle.std.specs.Prelude.{◌≡◌, ℕ, Bool, List, Some}
use Rattle.exact_field.specs.Rational.{ℚ}
use Rattle.vlp_problem.specs.declared.problem.Problem.{Problem}
use Rattle.deriv_log.specs.declared.entry.Entry.{Entry}
use Rattle.log_rules.specs.Events.Failure.{wrong}
use Rattle.log_rules.specs.LogEvents.{plain_failure}
use Rattle.log_rules.specs.Proves.{AllMeet}
use Rattle.log_rules.specs.declared.rule.Rule.{Rule}

-- whatever numbers are held, the first failure of entries that meet their rules is no test
abbrev pub NeverWrong : Type 0
NeverWrong = (holds : ℚ → Bool) (file : Problem) (entries : List Entry) (number : ℕ) (r : Rule) → AllMeet file entries →
    plain_failure holds file entries ≡ Some (record { entry = number; failure = wrong r }) → ⊥
