use Rattle.benson_dual.proofs.engine.image_log_by.Given as goal

abbrev pub ghost-in_first_order : goal.ghost-in_first_order
ghost-in_first_order g a = g.task

abbrev pub ghost-into_log : goal.ghost-into_log
ghost-into_log g a = g.task
