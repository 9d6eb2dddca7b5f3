use Rattle.lower_image.proofs.search.Search.weigh.Given as goal

abbrev pub ghost-ask : goal.ghost-ask
ghost-ask g a = g.task
