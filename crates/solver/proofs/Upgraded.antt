-- The upgrade of the log of a solution: it is accepted with the same answer.
use Rattle.std.proofs.Common.{◌≡◌, sym, ap, subst, Bool, true, List, ℕ, Some}
use Rattle.frac128.specs.Held.{is_held}
use Rattle.vlp_problem.specs.declared.problem.Problem.{Problem}
use Rattle.deriv_log.specs.Formed.{IsLog}
use Rattle.deriv_log.specs.Laws.{IsTextOf}
use Rattle.log_versions.specs.Laws.{IsUpgrade}
use Rattle.log_versions.specs.Upgrade.{upgraded}
use Rattle.log_versions.proofs.UpgradedLogs.{upgrades_say_the_same}
use Rattle.cert_check.specs.Verdict.{Accepts}
use Rattle.commands.specs.Replies.{log_for}
use Rattle.solver.specs.Replies.{IsLogged}
use Rattle.solver.specs.Solving.{IsSolutionOf}
use Rattle.solver.specs.declared.end.Solution.{Solution}

module _ (file : Problem) (s : Solution) (h : IsSolutionOf file s) where
  is_upgrade : IsUpgrade is_held file s.entries
  is_upgrade = upgrades_say_the_same is_held file s.entries h.log h.accepts.passes

  pub accepted_upgrade : IsLog (upgraded file.objs s.entries) →
      Accepts file (upgraded file.objs s.entries) s.answer
  accepted_upgrade log = record {
    passes = is_upgrade.passes;
    proves = is_upgrade.proves s.answer log.formed h.accepts.proves;
    right = h.accepts.right;
  }

  pub logged : (logs : Bool) (text : List ℕ) → logs ≡ true →
      IsTextOf text (upgraded file.objs s.entries) → IsLogged logs file s (Some text)
  logged logs text wanted is = record {
    printed =
        subst (λ (b : Bool). Some text ≡ log_for b (upgraded file.objs s.entries)) (sym wanted)
        (ap (λ (t : List ℕ). Some t) is.1);
    is_log = λ _. is.0;
    accepts = λ _. accepted_upgrade is.0;
  }
