use Rattle.lower_image.proofs.search.Search.ask.Given as goal

abbrev pub ghost-weigh_generator : goal.ghost-weigh_generator
ghost-weigh_generator g a = g.task

abbrev pub ghost-certify : goal.ghost-certify
ghost-certify g a = g.task
