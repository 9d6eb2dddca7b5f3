use Rattle.solver.proofs.logs.log_instead.Given as goal

abbrev pub ghost-log_in_place_of : goal.ghost-log_in_place_of
ghost-log_in_place_of g a = g.file
