-- What the check of an own log hands back.
use Rattle.std.proofs.Common.{◌≡◌, sym, subst, Result, Ok, Err, IfOk, List}
use Rattle.std.specs.Prelude.{IfErr}
use Rattle.frac128.specs.Held.{is_held}
use Rattle.vlp_problem.specs.declared.problem.Problem.{Problem}
use Rattle.deriv_log.specs.Formed.{IsLog}
use Rattle.deriv_log.specs.declared.entry.Entry.{Entry}
use Rattle.cone_rules.specs.Faults.{IsSound}
use Rattle.log_rules.specs.Proves.{PlainProves}
use Rattle.cert_check.specs.Verdict.{Accepts}
use Rattle.overflows.specs.Licence.{IsCheckOverflow}
use Rattle.overflows.specs.Faults.{OnLicence}
use Rattle.overflows.specs.declared.fault.SolveFault.{SolveFault}
use Rattle.benson_primal.specs.Logs.{IsOwnLogAnyhow}
use Rattle.solver.specs.Solving.{IsSolutionOf, LicensedInOrder}
use Rattle.solver.specs.declared.end.Solution.{Solution}
use Rattle.solver.proofs.Ended.{own_left}

module _ (file : Problem) (entries : List Entry) where
  pub solution_checked : IsSound file → IsLog entries → (r : Result Solution SolveFault) →
      IfOk r (λ s. s.entries ≡ entries) → IfOk r (λ s. Accepts file entries s.answer) →
      IfOk r (λ s. PlainProves file entries s.answer) → IfOk r (IsSolutionOf file)
  solution_checked sound log (Ok s) same accepts plainly = record {
    sound = sound;
    log = subst IsLog (sym same) log;
    accepts = subst (λ (es : List Entry). Accepts file es s.answer) (sym same) accepts;
    plainly = subst (λ (es : List Entry). PlainProves file es s.answer) (sym same) plainly;
  }
  solution_checked sound log (Err f) same accepts plainly = tt

  pub overflow_checked : IsSound file → IsOwnLogAnyhow is_held file entries → (r : Result Solution SolveFault) →
      IfErr r (λ f. OnLicence f (λ licence. (licence.trail ≡ entries) × IsCheckOverflow is_held file entries licence.place licence.left)) →
      IfErr r (λ f. OnLicence f (LicensedInOrder is_held file))
  overflow_checked sound own (Ok s) h = tt
  overflow_checked sound own (Err f) h = own_left file sound entries own f h
