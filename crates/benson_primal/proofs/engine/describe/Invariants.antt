use Rattle.benson_primal.proofs.engine.describe.Given as goal

abbrev pub ghost-directions : goal.ghost-directions
ghost-directions g a = g.task

abbrev pub ghost-approximate : goal.ghost-approximate
ghost-approximate g a = g.task

abbrev pub ghost-end_solved : goal.ghost-end_solved
ghost-end_solved g a = g.task
