use Rattle.benson_dual.proofs.image.Image.bring.Given as goal

abbrev pub ghost-start_outer : goal.ghost-start_outer
ghost-start_outer g a = g.task

abbrev pub ghost-take_all : goal.ghost-take_all
ghost-take_all g a = g.task
