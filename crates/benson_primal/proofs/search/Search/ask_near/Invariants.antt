use Rattle.benson_primal.proofs.search.Search.ask_near.Given as goal

abbrev pub ghost-ask : goal.ghost-ask
ghost-ask g a = g.task
