use Rattle.solver.proofs.logs.dual_log_of.Given as goal

abbrev pub ghost-dual : goal.ghost-dual
ghost-dual g a = g.file
