use Rattle.double_descr.proofs.parts.make_sets_aside.Given as goal

abbrev pub ghost-next_sets : goal.ghost-next_sets
ghost-next_sets g a = g.addition
