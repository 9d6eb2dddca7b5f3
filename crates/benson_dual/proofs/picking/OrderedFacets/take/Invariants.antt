use Rattle.benson_dual.proofs.picking.OrderedFacets.take.Given as goal

abbrev pub ghost-are_independent : goal.ghost-are_independent
ghost-are_independent g a = g.task
