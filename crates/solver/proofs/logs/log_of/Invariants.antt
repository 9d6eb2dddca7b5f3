use Rattle.solver.proofs.logs.log_of.Given as goal

abbrev pub ghost-log_by : goal.ghost-log_by
ghost-log_by g a = g.file
