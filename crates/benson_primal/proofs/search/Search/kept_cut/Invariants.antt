use Rattle.benson_primal.proofs.search.Search.kept_cut.Given as goal

abbrev pub ghost-own_cut : goal.ghost-own_cut
ghost-own_cut g a = g.task
