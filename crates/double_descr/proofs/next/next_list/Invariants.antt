use Rattle.double_descr.proofs.next.next_list.Given as goal

abbrev pub ghost-begin : goal.ghost-begin
ghost-begin g a = g.addition

abbrev pub ghost-meet_all : goal.ghost-meet_all
ghost-meet_all g a = g.addition

abbrev pub ghost-make_sets_aside : goal.ghost-make_sets_aside
ghost-make_sets_aside g a = g.addition

abbrev pub ghost-list_numbers : goal.ghost-list_numbers
ghost-list_numbers g a = g.addition
