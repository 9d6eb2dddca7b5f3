use Rattle.std.proofs.Common.{List, subst}
use Rattle.deriv_log.specs.declared.entry.Entry.{Entry}
use Rattle.benson_dual.specs.Logs.{AreAllNamed}
use Rattle.solver.proofs.answering.facet_solution_by_image.Goals as goal

pub returns-then-names_all_cuts-clause-named : goal.returns-then-names_all_cuts-clause-named
returns-then-names_all_cuts-clause-named c = λ ended.
    subst (λ (es : List Entry). AreAllNamed c.args.problem.now.objs es) c.as_slice.ensures.items
    (c.names_all_cuts.ensures c.if-names_all_cuts.true c.args.problem.now.objs)
