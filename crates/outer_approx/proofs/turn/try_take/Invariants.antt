use Rattle.outer_approx.proofs.turn.try_take.Given as goal

abbrev pub ghost-push_cut : goal.ghost-push_cut
ghost-push_cut g a = g.task
