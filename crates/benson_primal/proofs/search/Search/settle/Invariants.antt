use Rattle.benson_primal.proofs.search.Search.settle.Given as goal

abbrev pub ghost-kept_cut : goal.ghost-kept_cut
ghost-kept_cut g a = g.task

abbrev pub ghost-take : goal.ghost-take
ghost-take g a = g.task
