use Rattle.recession.proofs.further.ask_opposite.Given as goal

abbrev pub ghost-ask : goal.ghost-ask
ghost-ask g a = g.task
