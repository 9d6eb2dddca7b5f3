use Rattle.benson_primal.proofs.search.Search.ask_at.Given as goal

abbrev pub ghost-ask : goal.ghost-ask
ghost-ask g a = g.task

abbrev pub ghost-push_preimage : goal.ghost-push_preimage
ghost-push_preimage g a = g.task
