-- Overflows of the search for all facets as licences. They stand after no entries, which stand for a `version` and a `duality` entry.
use Rattle.std.proofs.Common.{◌≡◌, List, [], Bool, Result, Ok, Err, sym, subst}
use Rattle.std.specs.Prelude.{IfErr}
use Rattle.exact_field.specs.Rational.{ℚ}
use Rattle.deriv_log.specs.declared.entry.Entry.{Entry}
use Rattle.overflows.specs.Licence.{IsPossible, Licensed, LicensedWithout, StandsFor, opening}
use Rattle.overflows.proofs.Growing.{trail_laws}
use Rattle.overflows.proofs.Without.{licence_laws}
use Rattle.overflows.specs.Faults.{OnLicence, Overflows}
use Rattle.overflows.specs.declared.fault.SolveFault.{SolveFault}
use Rattle.overflows.specs.declared.fault.SolveFault.TheVariants.{Left, NoMemory}
use Rattle.outer_approx.specs.Task.{Task, IsFitting, setting}

-- what holds of an error, and what follows from it
pub err_then : {T E : Type 0} {P Q : E → Type 0} (r : Result T E) → IfErr r P → ((e : E) → P e → Q e) → IfErr r Q
err_then (Ok x) h f = tt
err_then (Err e) h f = f e h

module _ (holds : ℚ → Bool) (task : Task) (fit : IsFitting holds task) where
  abbrev pub opening_of : List Entry
  opening_of = opening task.c task.weights fit.picks fit.inverse

  pub licensed_after : (fault : SolveFault) → Overflows holds (setting task (opening task.c task.weights fit.picks fit.inverse)) [] fault →
      OnLicence fault (Licensed holds task.file task.c)
  licensed_after (Left licence) (same, overflow) =
      licence_laws.licensed holds task.file task.c task.weights opening_of licence
      (subst (λ (t : List Entry). StandsFor holds task.file task.c task.weights t opening_of) (sym same)
      (trail_laws.begins holds task.file task.c task.weights fit.picks fit.inverse fit.held fit.fits fit.base)) overflow
  licensed_after NoMemory o = tt

  possible : IsPossible holds task.file task.c task.weights
  possible = record {
    picks = fit.picks;
    inverse = fit.inverse;
    held = fit.held;
    trail = trail_laws.opened task.file task.c task.weights fit.picks fit.inverse fit.fits fit.base;
  }

  pub licensed_without : (fault : SolveFault) → OnLicence fault (LicensedWithout holds task.file) → OnLicence fault (Licensed holds task.file task.c)
  licensed_without (Left licence) h = licence_laws.without holds task.file task.c task.weights licence possible h
  licensed_without NoMemory h = tt
