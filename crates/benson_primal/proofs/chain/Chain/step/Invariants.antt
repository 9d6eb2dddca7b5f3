use Rattle.benson_primal.proofs.chain.Chain.step.Given as goal

abbrev pub ghost-pop_waiting : goal.ghost-pop_waiting
ghost-pop_waiting g a = g.task

abbrev pub ghost-pop_found : goal.ghost-pop_found
ghost-pop_found g a = g.task

abbrev pub ghost-push_found : goal.ghost-push_found
ghost-push_found g a = g.task

abbrev pub ghost-ask_between : goal.ghost-ask_between
ghost-ask_between g a = g.task
