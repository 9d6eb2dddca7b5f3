use Rattle.solver.proofs.answering.facet_solution.Given as goal

abbrev pub ghost-dual_log_of : goal.ghost-dual_log_of
ghost-dual_log_of a = a.problem.now
