use Rattle.benson_dual.proofs.approximation.Approximation.end.Given as goal

abbrev pub ghost-reach_all : goal.ghost-reach_all
ghost-reach_all g a = g.task

abbrev pub ghost-end_solved : goal.ghost-end_solved
ghost-end_solved g a = g.task
