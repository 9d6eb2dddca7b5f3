use Rattle.double_descr.proofs.made.try_plus.Given as goal

abbrev pub ghost-meet_with : goal.ghost-meet_with
ghost-meet_with g a = g.addition
