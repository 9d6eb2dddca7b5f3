-- An overflow of the question whether a part of a join has a feasible vector.
use Rattle.std.proofs.Common.{◌≡◌, subst, [], None, Result, Err, IfErr}
use Rattle.frac128.specs.Held.{is_held}
use Rattle.benson_program.specs.Ends.{IsPivotOfFeasible}
use Rattle.deriv_log.specs.declared.licence.Licence.{Licence}
use Rattle.overflows.specs.Licence.{LicensedWithout}
use Rattle.overflows.specs.Settings.{Setting}
use Rattle.overflows.specs.Faults.{OnLicence, Overflows}
use Rattle.overflows.specs.declared.fault.SolveFault.{SolveFault}
use Rattle.overflows.specs.declared.fault.SolveFault.TheVariants.{Left}
use Rattle.commands.specs.Replies.{TellsFault}
use Rattle.commands.specs.Told.{CanBeTold}
use Rattle.commands.specs.declared.reply.Reply.{Reply}
use Rattle.commands.specs.declared.status.Status.TheVariants as status
use Rattle.vlp_problem.specs.declared.problem.Problem.{Problem}
use Rattle.replies.specs.Parts.{StopTold}

-- before a duality vector is known
abbrev pub setting : Problem → Setting
setting file = record { file = file; c = None; weights = []; trail = [] }

-- an overflow there is licensed
overflow_licensed : (file : Problem) (l : Licence) →
    Overflows is_held (setting file) [] (Left l) → LicensedWithout is_held file l
overflow_licensed file l h = record { trail = h.0; overflow = h.1 }

-- and so it is told
pub stop_of : {E : Type 0} (part : Problem) (x : Result E SolveFault) (l : Licence) →
    x ≡ Err (Left l) → IfErr x (Overflows is_held (setting part) []) →
    IfErr x (λ f. OnLicence f (λ k. IsPivotOfFeasible k.place)) → CanBeTold l → (r : Reply) →
    r.status ≡ status.Left l → TellsFault r → StopTold part r
stop_of part x l is left place can r same told = record {
  licence = l;
  status = same;
  place =
      subst (λ (y : Result _ SolveFault). IfErr y (λ f. OnLicence f (λ k. IsPivotOfFeasible k.place))) is place;
  licensed =
      overflow_licensed part l
      (subst (λ (y : Result _ SolveFault). IfErr y (Overflows is_held (setting part) [])) is left);
  can = can;
  told = told;
}
