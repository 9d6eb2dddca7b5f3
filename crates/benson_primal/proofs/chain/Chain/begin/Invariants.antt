use Rattle.benson_primal.proofs.chain.Chain.begin.Given as goal

abbrev pub ghost-cut_at : goal.ghost-cut_at
ghost-cut_at g a = g.task

abbrev pub ghost-part_in_order : goal.ghost-part_in_order
ghost-part_in_order g a = g.task

abbrev pub ghost-push_waiting : goal.ghost-push_waiting
ghost-push_waiting g a = g.task

abbrev pub ghost-push_found : goal.ghost-push_found
ghost-push_found g a = g.task
