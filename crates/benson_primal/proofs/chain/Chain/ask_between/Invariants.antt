use Rattle.benson_primal.proofs.chain.Chain.ask_between.Given as goal

abbrev pub ghost-push_found : goal.ghost-push_found
ghost-push_found g a = g.task

abbrev pub ghost-cut_between : goal.ghost-cut_between
ghost-cut_between g a = g.task

abbrev pub ghost-settle : goal.ghost-settle
ghost-settle g a = g.task

abbrev pub ghost-put : goal.ghost-put
ghost-put g a = g.task
