use Rattle.benson_primal.proofs.chain.Chain.cut_at.Given as goal

abbrev pub ghost-ask : goal.ghost-ask
ghost-ask g a = g.task
