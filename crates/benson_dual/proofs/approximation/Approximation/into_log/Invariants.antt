use Rattle.benson_dual.proofs.approximation.Approximation.into_log.Given as goal

abbrev pub ghost-end : goal.ghost-end
ghost-end g a = g.task
