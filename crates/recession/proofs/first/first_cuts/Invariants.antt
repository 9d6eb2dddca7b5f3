use Rattle.recession.proofs.first.first_cuts.Given as goal

abbrev pub ghost-first_of_solvable : goal.ghost-first_of_solvable
ghost-first_of_solvable g a = g.task
