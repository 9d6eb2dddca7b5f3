use Rattle.lower_image.proofs.facets.facets_over.Given as goal

abbrev pub ghost-lower_description : goal.ghost-lower_description
ghost-lower_description g a = g.task

abbrev pub ghost-approximate : goal.ghost-approximate
ghost-approximate g a = g.task
