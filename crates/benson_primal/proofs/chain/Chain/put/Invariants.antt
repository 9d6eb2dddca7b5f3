use Rattle.benson_primal.proofs.chain.Chain.put.Given as goal

abbrev pub ghost-push_waiting : goal.ghost-push_waiting
ghost-push_waiting g a = g.task

abbrev pub ghost-part : goal.ghost-part
ghost-part g a = g.task

abbrev pub ghost-settle : goal.ghost-settle
ghost-settle g a = g.task
