use Rattle.solver.proofs.logs.log_by.Given as goal

abbrev pub ghost-log : goal.ghost-log
ghost-log g a = g.file

abbrev pub ghost-log_instead : goal.ghost-log_instead
ghost-log_instead g a = g.file
