use Rattle.recession.proofs.further.next_of.Given as goal

abbrev pub ghost-cut_or_line : goal.ghost-cut_or_line
ghost-cut_or_line g a = g.task
