use Rattle.benson_primal.proofs.search.Search.try_known.Given as goal

abbrev pub ghost-try_take : goal.ghost-try_take
ghost-try_take g a = g.task
