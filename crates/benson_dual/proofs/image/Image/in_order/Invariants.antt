use Rattle.benson_dual.proofs.image.Image.in_order.Given as goal

abbrev pub ghost-facets_in_order : goal.ghost-facets_in_order
ghost-facets_in_order g a = g.task

abbrev pub ghost-approximation : goal.ghost-approximation
ghost-approximation g a = g.task
