use Rattle.recession.proofs.first.first_of_solvable.Given as goal

abbrev pub ghost-lines_and_cuts : goal.ghost-lines_and_cuts
ghost-lines_and_cuts g a = g.task
