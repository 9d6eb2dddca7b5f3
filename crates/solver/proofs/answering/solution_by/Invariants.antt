use Rattle.solver.proofs.answering.solution_by.Given as goal

abbrev pub ghost-log : goal.ghost-log
ghost-log a = a.problem.now
