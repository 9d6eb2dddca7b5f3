use Rattle.std.proofs.Common.{List, subst, sym}
use Rattle.frac128.specs.Held.{is_held}
use Rattle.deriv_log.specs.declared.entry.Entry.{Entry}
use Rattle.solver.specs.Solving.{NamesAllCuts}
use Rattle.solver.proofs.Ended.{fault_ends}
use Rattle.solver.proofs.answering.facet_solution.Goals as goal

pub check_solution-requires-clause-own : goal.check_solution-requires-clause-own
check_solution-requires-clause-own c =
    let own = c.in_ok-entries.ensures.own in
    (own.0, own.1, own.2.own)

pub returns-clause-named : goal.returns-clause-named
returns-clause-named c =
    subst (λ (es : List Entry). NamesAllCuts c.args.problem.now es)
    (sym c.in_ok-solution.ensures.same) c.in_ok-entries.ensures.own.2.named

pub returns-in_err-solution-clause-end : goal.returns-in_err-solution-clause-end
returns-in_err-solution-clause-end c =
    fault_ends c.args.problem.now is_held c.from_residual-in_err-solution.result
    c.in_err-solution.field-0.0 c.from_residual-in_err-solution.ensures.1
    c.in_err-solution.ensures.left
