use Rattle.benson_dual.proofs.engine.image_log.Given as goal

abbrev pub ghost-all_facets : goal.ghost-all_facets
ghost-all_facets g a = g.task

abbrev pub ghost-image_log_by : goal.ghost-image_log_by
ghost-image_log_by g a = g.task
