use Rattle.benson_primal.proofs.search.Search.try_place.Given as goal

abbrev pub ghost-try_known : goal.ghost-try_known
ghost-try_known g a = g.task
