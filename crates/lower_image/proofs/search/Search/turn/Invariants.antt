use Rattle.lower_image.proofs.search.Search.turn.Given as goal

abbrev pub ghost-advance : goal.ghost-advance
ghost-advance g a = g.task

abbrev pub ghost-add : goal.ghost-add
ghost-add g a = g.task
