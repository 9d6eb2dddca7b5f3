use Rattle.lower_image.proofs.facets.all_facets.Given as goal

abbrev pub ghost-spanning_rows : goal.ghost-spanning_rows
ghost-spanning_rows g a = g.task.file

abbrev pub ghost-facets_over : goal.ghost-facets_over
ghost-facets_over g a = g.task
