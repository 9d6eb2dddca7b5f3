-- Faults of the parts as ends.
use Rattle.std.proofs.Common.{◌≡◌, sym, subst, Result, Ok, Err, inr}
use Rattle.std.specs.Prelude.{IsErrAnd, IfErr, Bool}
use Rattle.exact_field.specs.Rational.{ℚ}
use Rattle.frac128.specs.Held.{is_held}
use Rattle.vlp_problem.specs.declared.problem.Problem.{Problem}
use Rattle.deriv_log.specs.declared.entry.Entry.{Entry}
use Rattle.std.specs.Prelude.{List}
use Rattle.overflows.specs.Licence.{IsCheckOverflow, Licensed}
use Rattle.overflows.specs.Trails.{IsBaseTrail}
use Rattle.cone_rules.specs.Faults.{IsSound}
use Rattle.overflows.proofs.Without.{licence_laws}
use Rattle.overflows.specs.Faults.{OnLicence}
use Rattle.overflows.specs.declared.fault.SolveFault.{SolveFault}
use Rattle.overflows.specs.declared.fault.SolveFault.TheVariants.{Left, NoMemory}
use Rattle.solver.specs.Ends.{IsSameFault}
use Rattle.benson_primal.specs.Logs.{IsOwnLogAnyhow}
use Rattle.solver.specs.Solving.{EndsIn, LicensedInOrder}
use Rattle.solver.specs.declared.end.SolveEnd.{SolveEnd}

module _ (file : Problem) where
  module _ (holds : ℚ → Bool) where
    same_end : (f : SolveFault) (e : SolveEnd) → IsSameFault f e → OnLicence f (LicensedInOrder holds file) → EndsIn holds file e
    same_end (Left licence) e is h = subst (λ (x : SolveEnd). EndsIn holds file x) (sym is) h
    same_end NoMemory e is h = subst (λ (x : SolveEnd). EndsIn holds file x) (sym is) tt

    -- where the cone is sound, the overflow of a call that was handed a duality vector is one with
    -- some vector
    pub anyhow : IsSound file → (c : List ℚ) (f : SolveFault) → OnLicence f (Licensed holds file c) → OnLicence f (LicensedInOrder holds file)
    anyhow sound c (Left licence) h = inr (sound, (c, h))
    anyhow sound c NoMemory h = tt

    pub fault_ends : {T : Type 0} (r : Result T SolveEnd) (f : SolveFault) → IsErrAnd r (λ e. IsSameFault f e) →
        OnLicence f (LicensedInOrder holds file) → IfErr r (EndsIn holds file)
    fault_ends (Ok x) f h k = tt
    fault_ends (Err e) f h k = same_end f e h k

  -- the overflow of the check of an own log
  pub own_left : IsSound file → (entries : List Entry) (own : IsOwnLogAnyhow is_held file entries) (f : SolveFault) →
      OnLicence f (λ licence. (licence.trail ≡ entries) × IsCheckOverflow is_held file entries licence.place licence.left) →
      OnLicence f (LicensedInOrder is_held file)
  own_left sound entries own (Left licence) h =
      inr (
        sound,
        (
          own.0,
          licence_laws.checked is_held file own.0 own.1 licence own.2.possible
              (subst (λ (t : List Entry). IsBaseTrail file own.0 own.1 t) (sym h.0) own.2.base)
              (subst (λ (t : List Entry). IsCheckOverflow is_held file t licence.place licence.left) (sym h.0) h.1),
        ),
      )
  own_left sound entries own NoMemory h = tt
