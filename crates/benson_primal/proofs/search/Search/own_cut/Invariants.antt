use Rattle.benson_primal.proofs.search.Search.own_cut.Given as goal

abbrev pub ghost-vector : goal.ghost-vector
ghost-vector g a = g.task

abbrev pub ghost-ask_at : goal.ghost-ask_at
ghost-ask_at g a = g.task
