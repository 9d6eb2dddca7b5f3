use Rattle.benson_dual.proofs.image.Image.in_first_order.Given as goal

abbrev pub ghost-try_order : goal.ghost-try_order
ghost-try_order g a = g.task

abbrev pub ghost-in_order : goal.ghost-in_order
ghost-in_order g a = g.task
