use Rattle.lower_image.proofs.weighing.weigh_generator.Given as goal

abbrev pub ghost-weight_at : goal.ghost-weight_at
ghost-weight_at g a = g.task

abbrev pub ghost-row_of : goal.ghost-row_of
ghost-row_of g a = g.task
