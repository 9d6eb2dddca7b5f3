use Rattle.benson_primal.proofs.chain.Chain.settle.Given as goal

abbrev pub ghost-push_found : goal.ghost-push_found
ghost-push_found g a = g.task
