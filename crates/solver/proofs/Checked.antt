-- The licence of the first step of a log whose result is not held.
use Rattle.std.proofs.Common.{◌≡◌, ℕ, List, Some}
use Rattle.exact_field.specs.Rational.{ℚ}
use Rattle.exact_field.specs.declared.op.Left.{Left}
use Rattle.frac128.specs.Held.{is_held, held_zero}
use Rattle.vlp_problem.specs.declared.problem.Problem.{Problem}
use Rattle.deriv_log.specs.Formed.{IsLog}
use Rattle.deriv_log.specs.declared.entry.Entry.{Entry}
use Rattle.deriv_log.specs.declared.licence.Place.TheVariants.{Step}
use Rattle.log_rules.specs.Events.Failure.{left as overflows}
use Rattle.log_rules.specs.LogEvents.{plain_failure}
use Rattle.overflows.specs.Licence.{IsCheckOverflow}
use Rattle.overflows.proofs.Given.{overflow_laws}

-- the overflow of the check of a log, at its step
pub check_overflows : (file : Problem) (entries : List Entry) (number k : ℕ) (left : Left ℚ) → IsLog entries →
    plain_failure is_held file entries ≡ Some (record { entry = number; failure = overflows k left.op left.a left.b }) →
    IsCheckOverflow is_held file entries (Step number k) left
check_overflows file entries number k left log h = overflow_laws.check is_held file entries number k left.op left.a left.b held_zero log h
