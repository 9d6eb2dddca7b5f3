-- Faults of calls as ends, and faults of the cone in a field as those of the file's.
use Rattle.std.proofs.Common.{◌≡◌, sym, subst, Bool, Result, Ok, Err}
use Rattle.std.specs.Prelude.{IsErrAnd, IfErr}
use Rattle.exact_field.specs.Rational.{ℚ}
use Rattle.vlp_problem.specs.declared.problem.Problem.{Problem}
use Rattle.overflows.specs.Licence.{LicensedByCone}
use Rattle.overflows.specs.Faults.{OnLicence}
use Rattle.overflows.specs.declared.fault.SolveFault.{SolveFault}
use Rattle.overflows.specs.declared.fault.SolveFault.TheVariants as fault
use Rattle.cone_dual.specs.Ends.{IsEnd, IsSameEnd}
use Rattle.cone_dual.specs.declared.duality.ConeEnd.{ConeEnd}

module _ (holds : ℚ → Bool) (file : Problem) where
  same_end : (f : SolveFault) (e : ConeEnd) → IsSameEnd f e → OnLicence f (LicensedByCone holds file) → IsEnd holds file e
  same_end (fault.Left licence) e is h = subst (λ (x : ConeEnd). IsEnd holds file x) (sym is) h
  same_end fault.NoMemory e is h = subst (λ (x : ConeEnd). IsEnd holds file x) (sym is) tt

  pub licensed_end : {T : Type 0} (r : Result T ConeEnd) (f : SolveFault) → IsErrAnd r (λ e. IsSameEnd f e) → OnLicence f (LicensedByCone holds file) →
      IfErr r (IsEnd holds file)
  licensed_end (Ok x) f h k = tt
  licensed_end (Err e) f h k = same_end f e h k

  pub same_returned : {T : Type 0} (r : Result T ConeEnd) (e : ConeEnd) → IsErrAnd r (λ x. x ≡ e) → IsEnd holds file e → IfErr r (IsEnd holds file)
  same_returned (Ok x) e h k = tt
  same_returned (Err x) e h k = subst (λ (y : ConeEnd). IsEnd holds file y) (sym h) k
