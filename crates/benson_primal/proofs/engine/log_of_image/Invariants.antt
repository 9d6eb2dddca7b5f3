use Rattle.benson_primal.proofs.engine.log_of_image.Given as goal

abbrev pub ghost-log_from : goal.ghost-log_from
ghost-log_from g a = g.task
