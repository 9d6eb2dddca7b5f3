use Rattle.benson_primal.proofs.search.Search.reach.Given as goal

abbrev pub ghost-near_cut : goal.ghost-near_cut
ghost-near_cut g a = g.task

abbrev pub ghost-own_cut : goal.ghost-own_cut
ghost-own_cut g a = g.task
