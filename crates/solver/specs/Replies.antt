-- What is replied of a problem: its solution, or why there is none.
use Rattle.std.specs.Prelude.{◌≡◌, ◌⊎◌, ℕ, Bool, IsTrue, List, Option}
use Rattle.frac128.specs.Held.{is_held}
use Rattle.vlp_problem.specs.declared.problem.Problem.{Problem}
use Rattle.deriv_log.specs.Formed.{IsLog}
use Rattle.deriv_log.specs.declared.licence.Licence.{Licence}
use Rattle.log_rules.specs.Report.{report_text}
use Rattle.log_versions.specs.Upgrade.{upgraded}
use Rattle.cert_check.specs.Verdict.{Accepts}
use Rattle.cone_rules.specs.Faults.{HasFault}
use Rattle.cone_rules.specs.declared.fault.ConeFault.{ConeFault as AConeFault}
use Rattle.commands.specs.Replies.{TellsFault, log_for}
use Rattle.commands.specs.Told.{CanBeTold}
use Rattle.commands.specs.declared.reply.Reply.{Reply}
use Rattle.commands.specs.declared.status.Status.TheVariants.{Done, ConeFault, Left}
use Rattle.solver.specs.Solving.{IsSolutionOf, LicensedInOrder, NamesAllCuts}
use Rattle.solver.specs.declared.end.Solution.{Solution}

-- the log of a solution, where one is wanted: the text of the upgrade of its entries, which is a
-- log of which no event fails, and proves the same answer
pub record IsLogged (logs : Bool) (file : Problem) (s : Solution)
    (log : Option (List ℕ)) : Type 0 where
  pub printed : log ≡ log_for logs (upgraded file.objs s.entries)
  pub is_log : IsTrue logs → IsLog (upgraded file.objs s.entries)
  pub accepts : IsTrue logs → Accepts file (upgraded file.objs s.entries) s.answer

-- there are a log's entries and an answer, which solve the problem: the text is the report of the
-- answer, and the log, where one is wanted, is that of the solution
pub record Solved (logs : Bool) (file : Problem) (r : Reply) : Type 0 where
  pub status : r.status ≡ Done
  pub solution : Solution
  pub right : IsSolutionOf file solution
  pub report : r.text ≡ report_text file solution.answer
  pub logged : IsLogged logs file solution r.log

-- .. and where the log of the solution ends as solved, it names each of its cuts as a facet
pub record DualSolved (logs : Bool) (file : Problem) (r : Reply) : Type 0 where
  pub solved : Solved logs file r
  pub named : NamesAllCuts file solved.solution.entries

-- the ordering cone has this first fault
pub record ConeRefused (file : Problem) (r : Reply) : Type 0 where
  pub fault : AConeFault
  pub status : r.status ≡ ConeFault fault
  pub has : HasFault file fault
  pub told : TellsFault r

-- an operation whose exact result is not held is licensed, by the cone alone or where it is sound;
-- what its licence shows is held
pub record Overflowed (file : Problem) (r : Reply) : Type 0 where
  pub licence : Licence
  pub status : r.status ≡ Left licence
  pub licensed : LicensedInOrder is_held file licence
  pub can : CanBeTold licence
  pub told : TellsFault r

-- there is no answer: the ordering cone is refused, or an overflow is licensed
abbrev pub Unsolved : Problem → Reply → Type 0
Unsolved file r = ConeRefused file r ⊎ Overflowed file r

-- what is replied of a problem, with a log or without
abbrev pub SolveVerdict : Bool → Problem → Reply → Type 0
SolveVerdict logs file r = Solved logs file r ⊎ Unsolved file r

-- .. and the same where the log is written over the facets
abbrev pub DualVerdict : Bool → Problem → Reply → Type 0
DualVerdict logs file r = DualSolved logs file r ⊎ Unsolved file r

-- nothing stands against an answer: the cone has no fault, and no overflow that can be told is
-- licensed
pub record IsSolvable (file : Problem) : Type 0 where
  pub faultless : (f : AConeFault) → HasFault file f → ⊥
  pub held : (l : Licence) → CanBeTold l → LicensedInOrder is_held file l → ⊥
