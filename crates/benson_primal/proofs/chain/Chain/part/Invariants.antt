use Rattle.benson_primal.proofs.chain.Chain.part.Given as goal

abbrev pub ghost-push_found : goal.ghost-push_found
ghost-push_found g a = g.task

abbrev pub ghost-push_waiting : goal.ghost-push_waiting
ghost-push_waiting g a = g.task
