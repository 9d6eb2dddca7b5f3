use Rattle.benson_primal.proofs.chain.Chain.part_in_order.Given as goal

abbrev pub ghost-part : goal.ghost-part
ghost-part g a = g.task
