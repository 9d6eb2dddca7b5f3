use Rattle.benson_primal.proofs.search.Search.near_cut.Given as goal

abbrev pub ghost-vector : goal.ghost-vector
ghost-vector g a = g.task

abbrev pub ghost-ask_near : goal.ghost-ask_near
ghost-ask_near g a = g.task
