-- The answer of a log that names each of its cuts has this log.
use Rattle.std.proofs.Common.{◌≡◌, sym, subst, Result, Ok, Err, IfOk, List}
use Rattle.vlp_problem.specs.declared.problem.Problem.{Problem}
use Rattle.deriv_log.specs.declared.entry.Entry.{Entry}
use Rattle.solver.specs.Solving.{NamesAllCuts}
use Rattle.solver.specs.declared.end.Solution.{Solution}
use Rattle.solver.specs.declared.end.SolveEnd.{SolveEnd}

pub named_in : (file : Problem) (entries : List Entry) (r : Result Solution SolveEnd) →
    NamesAllCuts file entries → IfOk r (λ s. s.entries ≡ entries) →
    IfOk r (λ s. NamesAllCuts file s.entries)
named_in file entries (Ok s) named same =
    subst (λ (es : List Entry). NamesAllCuts file es) (sym same) named
named_in file entries (Err end) named same = tt
