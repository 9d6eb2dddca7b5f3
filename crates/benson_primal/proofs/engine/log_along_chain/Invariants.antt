use Rattle.benson_primal.proofs.engine.log_along_chain.Given as goal

abbrev pub ghost-chain_of : goal.ghost-chain_of
ghost-chain_of g a = g.task

abbrev pub ghost-chain_log : goal.ghost-chain_log
ghost-chain_log g a = g.task
