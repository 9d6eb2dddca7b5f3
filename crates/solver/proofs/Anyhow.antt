-- What both ways give, for some duality vector and weights.
use Rattle.std.proofs.Common.{Result, Ok, Err, IfOk, List}
use Rattle.std.specs.Prelude.{Bool, IfErr}
use Rattle.exact_field.specs.Rational.{ℚ}
use Rattle.vlp_problem.specs.declared.problem.Problem.{Problem}
use Rattle.deriv_log.specs.declared.entry.Entry.{Entry}
use Rattle.cone_rules.specs.Faults.{IsSound}
use Rattle.overflows.specs.Licence.{Licensed}
use Rattle.overflows.specs.Faults.{OnLicence}
use Rattle.overflows.specs.declared.fault.SolveFault.{SolveFault}
use Rattle.benson_primal.specs.Logs.{IsOwnLog, IsOwnLogAnyhow}
use Rattle.benson_dual.specs.Logs.{IsFacetLog}
use Rattle.solver.specs.Solving.{LicensedInOrder}
use Rattle.solver.proofs.Ended.{anyhow}

module _ (holds : ℚ → Bool) (file : Problem) (c weights : List ℚ) where
  pub own_anyhow : (r : Result (List Entry) SolveFault) → IfOk r (IsOwnLog holds file c weights) →
      IfOk r (IsOwnLogAnyhow holds file)
  own_anyhow (Ok log) h = (c, weights, h)
  own_anyhow (Err f) h = tt

  pub facet_anyhow : (r : Result (List Entry) SolveFault) → IfOk r (IsFacetLog holds file c weights) →
      IfOk r (IsOwnLogAnyhow holds file)
  facet_anyhow (Ok log) h = (c, weights, h.own)
  facet_anyhow (Err f) h = tt

  pub left_anyhow : IsSound file → (r : Result (List Entry) SolveFault) →
      IfErr r (λ f. OnLicence f (Licensed holds file c)) →
      IfErr r (λ f. OnLicence f (LicensedInOrder holds file))
  left_anyhow sound (Ok log) h = tt
  left_anyhow sound (Err f) h = anyhow file holds sound c f h
