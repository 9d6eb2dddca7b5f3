use Rattle.lower_image.proofs.starting.lower_description.Given as goal

abbrev pub ghost-rows_over : goal.ghost-rows_over
ghost-rows_over g a = g.task
