use Rattle.benson_dual.proofs.image.Image.try_order.Given as goal

abbrev pub ghost-in_order : goal.ghost-in_order
ghost-in_order g a = g.task
