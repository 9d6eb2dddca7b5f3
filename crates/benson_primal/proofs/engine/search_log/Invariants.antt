use Rattle.benson_primal.proofs.engine.search_log.Given as goal

abbrev pub ghost-describe : goal.ghost-describe
ghost-describe g a = g.task
