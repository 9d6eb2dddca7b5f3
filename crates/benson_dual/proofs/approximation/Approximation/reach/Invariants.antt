use Rattle.benson_dual.proofs.approximation.Approximation.reach.Given as goal

abbrev pub ghost-ask : goal.ghost-ask
ghost-ask g a = g.task

abbrev pub ghost-push_preimage : goal.ghost-push_preimage
ghost-push_preimage g a = g.task
