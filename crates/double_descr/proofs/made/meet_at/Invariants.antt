use Rattle.double_descr.proofs.made.meet_at.Given as goal

abbrev pub ghost-try_pair : goal.ghost-try_pair
ghost-try_pair g a = g.addition
