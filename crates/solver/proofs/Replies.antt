-- What the replies of a problem say: with an answer where nothing stands against it, never of words
-- without a shape, and with a log only where one is wanted.
use Rattle.std.proofs.Common.{◌≡◌, Bool, false, None, Result, Ok, Err, IfOk, ap, ◌∙◌, sym, inl, inr, arith}
use Rattle.src_sink.specs.declared.items.NoMemory.{NoMemory}
use Rattle.vlp_problem.specs.declared.problem.Problem.{Problem}
use Rattle.deriv_log.specs.declared.licence.Licence.{Licence}
use Rattle.cone_rules.specs.declared.fault.ConeFault.{ConeFault as AConeFault}
use Rattle.commands.specs.Codes.{code_of}
use Rattle.commands.specs.Replies.{TellsFault}
use Rattle.commands.specs.Told.{CanBeTold}
use Rattle.commands.specs.declared.reply.Reply.{Reply}
use Rattle.commands.specs.declared.status.Status.{Status}
use Rattle.commands.specs.declared.status.Status.TheVariants.{Done, Words, ConeFault}
use Rattle.commands.specs.declared.status.Status.TheVariants as status
use Rattle.log_rules.specs.Report.{report_text}
use Rattle.solver.specs.Replies.{DualVerdict, IsLogged, IsSolvable, SolveVerdict, Unsolved}
use Rattle.solver.specs.Solving.{EndsSolving, IsSolutionOf, NamesAllCuts}
use Rattle.solver.specs.declared.end.Solution.{Solution}
use Rattle.solver.specs.declared.end.SolveEnd.TheVariants.{Cone, Left}

-- ---- the reply where there is no solution
pub cone_told : (file : Problem) (f : AConeFault) (x : Result Reply NoMemory) → EndsSolving file (Cone f) → IfOk x (λ r. r.status ≡ ConeFault f) → IfOk x TellsFault → IfOk x (Unsolved file)
cone_told file f (Ok r) ends status told = inl (record { fault = f; status = status; has = ends; told = told })
cone_told file f (Err e) ends status told = tt

pub left_told : (file : Problem) (l : Licence) (x : Result Reply NoMemory) → EndsSolving file (Left l) → CanBeTold l → IfOk x (λ r. r.status ≡ status.Left l) → IfOk x TellsFault → IfOk x (Unsolved file)
left_told file l (Ok r) ends can status told = inr (record { licence = l; status = status; licensed = ends; can = can; told = told })
left_told file l (Err e) ends can status told = tt

pub unsolved_verdict : (logs : Bool) (file : Problem) (x : Result Reply NoMemory) → IfOk x (Unsolved file) → IfOk x (SolveVerdict logs file)
unsolved_verdict logs file (Ok r) unsolved = inr unsolved
unsolved_verdict logs file (Err e) unsolved = tt

-- ---- with a log over the facets
pub dual_solved : (logs : Bool) (file : Problem) (s : Solution) (x : Result Reply NoMemory) →
    IsSolutionOf file s → NamesAllCuts file s.entries →
    IfOk x (λ r. r.status ≡ Done) → IfOk x (λ r. r.text ≡ report_text file s.answer) →
    IfOk x (λ r. IsLogged logs file s r.log) → IfOk x (DualVerdict logs file)
dual_solved logs file s (Ok r) right named status report logged =
    inl (record {
      solved = record {
        status = status;
        solution = s;
        right = right;
        report = report;
        logged = logged;
      };
      named = named;
    })
dual_solved logs file s (Err e) right named status report logged = tt

pub dual_unsolved : (logs : Bool) (file : Problem) (x : Result Reply NoMemory) →
    IfOk x (Unsolved file) → IfOk x (DualVerdict logs file)
dual_unsolved logs file (Ok r) unsolved = inr unsolved
dual_unsolved logs file (Err e) unsolved = tt

-- what such a reply says is what one of `solve` says
pub dual_solves : (logs : Bool) (file : Problem) (r : Reply) → DualVerdict logs file r →
    SolveVerdict logs file r
dual_solves logs file r (inl dual) = inl dual.solved
dual_solves logs file r (inr unsolved) = inr unsolved

-- ---- where nothing stands against an answer
pub unsolved_answered : (file : Problem) (r : Reply) → IsSolvable file → Unsolved file r → ⊥
unsolved_answered file r solvable unsolved =
    elim unsolved [
      | inl refused ↦ solvable.faultless refused.fault refused.has
      | inr left ↦ solvable.held left.licence left.can left.licensed
    ]

pub solve_answered : (logs : Bool) (file : Problem) (r : Reply) → IsSolvable file → SolveVerdict logs file r → r.status ≡ Done
solve_answered logs file r solvable verdict =
    elim verdict [
      | inl solved ↦ solved.status
      | inr unsolved ↦ absurd (unsolved_answered file r solvable unsolved)
    ]

-- ---- words without a shape
pub unsolved_never_words : (file : Problem) (r : Reply) → Unsolved file r → Words ≡ r.status → ⊥
unsolved_never_words file r unsolved same =
    elim unsolved [
      | inl refused ↦ omega (arith, ap (λ (s : Status). code_of s) (same ∙ refused.status))
      | inr left ↦ omega (arith, ap (λ (s : Status). code_of s) (same ∙ left.status))
    ]

pub solve_never_words : (logs : Bool) (file : Problem) (r : Reply) → SolveVerdict logs file r → Words ≡ r.status → ⊥
solve_never_words logs file r verdict same =
    elim verdict [
      | inl solved ↦ omega (arith, ap (λ (s : Status). code_of s) (same ∙ solved.status))
      | inr unsolved ↦ unsolved_never_words file r unsolved same
    ]

-- ---- without an answer
pub unsolved_not_done : (file : Problem) (r : Reply) → Unsolved file r → r.status ≡ Done → ⊥
unsolved_not_done file r unsolved done =
    elim unsolved [
      | inl refused ↦ omega (arith, ap (λ (s : Status). code_of s) (sym done ∙ refused.status))
      | inr left ↦ omega (arith, ap (λ (s : Status). code_of s) (sym done ∙ left.status))
    ]

-- ---- logs
pub unsolved_quiet : (file : Problem) (r : Reply) → Unsolved file r → r.log ≡ None
unsolved_quiet file r unsolved =
    elim unsolved [
      | inl refused ↦ refused.told.no_log
      | inr left ↦ left.told.no_log
    ]

pub solve_quiet : (file : Problem) (r : Reply) → SolveVerdict false file r → r.log ≡ None
solve_quiet file r verdict =
    elim verdict [
      | inl solved ↦ solved.logged.printed
      | inr unsolved ↦ unsolved_quiet file r unsolved
    ]

-- ---- the same of logs over the facets
pub dual_answered : (logs : Bool) (file : Problem) (r : Reply) → IsSolvable file →
    DualVerdict logs file r → r.status ≡ Done
dual_answered logs file r solvable verdict =
    solve_answered logs file r solvable (dual_solves logs file r verdict)

pub dual_never_words : (logs : Bool) (file : Problem) (r : Reply) → DualVerdict logs file r →
    Words ≡ r.status → ⊥
dual_never_words logs file r verdict same =
    solve_never_words logs file r (dual_solves logs file r verdict) same

pub dual_quiet : (file : Problem) (r : Reply) → DualVerdict false file r → r.log ≡ None
dual_quiet file r verdict = solve_quiet file r (dual_solves false file r verdict)
