use Rattle.solver.proofs.Checking.{overflow_checked, solution_checked}
use Rattle.solver.proofs.answering.check_solution.Goals as goal

pub returns-clause-ok : goal.returns-clause-ok
returns-clause-ok c =
    solution_checked c.args.problem.now c.args.entries c.requires.sound c.requires.own.2.log
    c.check_own.result c.check_own.ensures.same c.check_own.ensures.ok c.check_own.ensures.plainly

pub returns-clause-left : goal.returns-clause-left
returns-clause-left c =
    overflow_checked c.args.problem.now c.args.entries c.requires.sound c.requires.own c.check_own.result
    c.check_own.ensures.licensed
