-- The overflow of the check of a log.
use Rattle.std.specs.Prelude.{◌≡◌, ℕ, List, Some}
use Rattle.frac128.specs.Held.{is_held}
use Rattle.vlp_problem.specs.declared.problem.Problem.{Problem}
use Rattle.deriv_log.specs.declared.entry.Entry.{Entry}
use Rattle.deriv_log.specs.declared.licence.Licence.{Licence}
use Rattle.deriv_log.specs.declared.licence.Place.TheVariants.{Step}
use Rattle.log_rules.specs.Events.Failure.{left as overflows}
use Rattle.log_rules.specs.LogEvents.{plain_failure}

-- the licence of the first step of a log whose exact result is not held: its number in its entry,
-- its operands, and the whole log
pub record IsStepLicence (file : Problem) (entries : List Entry) (licence : Licence) : Type 0 where
  pub entry : ℕ
  pub step : ℕ
  pub first : plain_failure is_held file entries
      ≡ Some (record {
        entry = entry;
        failure = overflows step licence.left.op licence.left.a licence.left.b;
      })
  pub place : licence.place ≡ Step entry step
  pub trail : licence.trail ≡ entries
