use Rattle.benson_primal.proofs.engine.chain_log.Given as goal

abbrev pub ghost-are_independent : goal.ghost-are_independent
ghost-are_independent g a = g.task

abbrev pub ghost-image_log : goal.ghost-image_log
ghost-image_log g a = g.task

abbrev pub ghost-unless_left : goal.ghost-unless_left
ghost-unless_left g a = g.task
