use Rattle.benson_primal.proofs.chain.chain_of.Given as goal

abbrev pub ghost-begin : goal.ghost-begin
ghost-begin g a = g.task

abbrev pub ghost-go_on : goal.ghost-go_on
ghost-go_on g a = g.task
