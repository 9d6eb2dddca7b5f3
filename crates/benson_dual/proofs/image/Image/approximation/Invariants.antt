use Rattle.benson_dual.proofs.image.Image.approximation.Given as goal

abbrev pub ghost-open_trail : goal.ghost-open_trail
ghost-open_trail g a = g.task

abbrev pub ghost-bring : goal.ghost-bring
ghost-bring g a = g.task
