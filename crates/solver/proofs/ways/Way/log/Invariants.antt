use Rattle.solver.proofs.ways.Way.log.Given as goal

abbrev pub ghost-primal : goal.ghost-primal
ghost-primal g a = g.file

abbrev pub ghost-dual : goal.ghost-dual
ghost-dual g a = g.file
