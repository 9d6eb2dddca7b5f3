use Rattle.benson_primal.proofs.engine.image_log.Given as goal

abbrev pub ghost-open_trail : goal.ghost-open_trail
ghost-open_trail g a = g.task

abbrev pub ghost-start_outer : goal.ghost-start_outer
ghost-start_outer g a = g.task

abbrev pub ghost-search_log : goal.ghost-search_log
ghost-search_log g a = g.task

abbrev pub ghost-take_known : goal.ghost-take_known
ghost-take_known g a = g.task
