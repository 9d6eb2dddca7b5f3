use Rattle.double_descr.proofs.by_row.search_of.Given as goal

abbrev pub ghost-reach_of : goal.ghost-reach_of
ghost-reach_of g a = g.addition
