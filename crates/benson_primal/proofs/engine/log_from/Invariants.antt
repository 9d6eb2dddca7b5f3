use Rattle.benson_primal.proofs.engine.log_from.Given as goal

abbrev pub ghost-image_log : goal.ghost-image_log
ghost-image_log g a = g.task

abbrev pub ghost-log_along_chain : goal.ghost-log_along_chain
ghost-log_along_chain g a = g.task

abbrev pub ghost-log_or : goal.ghost-log_or
ghost-log_or g a = g.task
