use Rattle.benson_primal.proofs.search.Search.turn.Given as goal

abbrev pub ghost-advance : goal.ghost-advance
ghost-advance g a = g.task

abbrev pub ghost-settle : goal.ghost-settle
ghost-settle g a = g.task
