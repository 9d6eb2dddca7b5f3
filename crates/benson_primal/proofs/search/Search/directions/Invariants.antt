use Rattle.benson_primal.proofs.search.Search.directions.Given as goal

abbrev pub ghost-approximate : goal.ghost-approximate
ghost-approximate g a = g.task
