use Rattle.solver.proofs.logs.log_in_place_of.Given as goal

abbrev pub ghost-log : goal.ghost-log
ghost-log g a = g.file
