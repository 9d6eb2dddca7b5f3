use Rattle.benson_primal.proofs.chain.Chain.cut_between.Given as goal

abbrev pub ghost-cut_at : goal.ghost-cut_at
ghost-cut_at g a = g.task
