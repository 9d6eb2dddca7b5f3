-- The upgrade of the log of a solution passes a check with the same report.
use Rattle.std.proofs.Common.{refl, ap, subst, Result, Ok, Err, IfOk, List}
use Rattle.vlp_problem.specs.declared.problem.Problem.{Problem}
use Rattle.vlp_reader.proofs.OneProblem.{one_problem}
use Rattle.deriv_log.specs.declared.entry.Entry.{Entry}
use Rattle.log_rules.specs.Report.{report_text}
use Rattle.log_versions.specs.Upgrade.{upgraded}
use Rattle.log_versions.proofs.PlainMeets.{proves_plainly}
use Rattle.cert_check.specs.Verdict.{Accepts}
use Rattle.solver.specs.Accepted.{PassesAs, IsAccepted}
use Rattle.solver.specs.Solving.{IsSolutionOf}
use Rattle.solver.specs.declared.end.Solution.{Solution}
use Rattle.solver.specs.declared.end.SolveEnd.{SolveEnd}
use Rattle.solver.proofs.Upgraded.{accepted_upgrade}

pub is_accepted : (file : Problem) (s : Solution) → IsSolutionOf file s → IsAccepted file s
is_accepted file s h bytes problem first second log =
    let upgrade : List Entry = upgraded file.objs s.entries in
    let accepts : Accepts file upgrade s.answer = accepted_upgrade file s h log in
    subst (λ (g : Problem). PassesAs (report_text file s.answer) g upgrade)
    (one_problem bytes file problem first second)
    (record {
      text = (log, refl);
      passes = accepts.passes;
      reports = λ answer proves. ap (report_text file)
          (proves_plainly.one file upgrade answer s.answer proves accepts.proves);
    })

pub all_accepted : (file : Problem) (r : Result Solution SolveEnd) → IfOk r (IsSolutionOf file) →
    IfOk r (IsAccepted file)
all_accepted file (Ok s) h = is_accepted file s h
all_accepted file (Err end) h = tt
