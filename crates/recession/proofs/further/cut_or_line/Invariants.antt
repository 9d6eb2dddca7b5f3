use Rattle.recession.proofs.further.cut_or_line.Given as goal

abbrev pub ghost-ask : goal.ghost-ask
ghost-ask g a = g.task

abbrev pub ghost-ask_opposite : goal.ghost-ask_opposite
ghost-ask_opposite g a = g.task
