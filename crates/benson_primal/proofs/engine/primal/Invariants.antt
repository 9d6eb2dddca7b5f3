use Rattle.benson_primal.proofs.engine.primal.Given as goal

abbrev pub ghost-primal_with : goal.ghost-primal_with
ghost-primal_with g a = g.file
