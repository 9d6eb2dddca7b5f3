use Rattle.recession.proofs.asking.ask.Given as goal

abbrev pub ghost-read_off : goal.ghost-read_off
ghost-read_off g a = g.task
