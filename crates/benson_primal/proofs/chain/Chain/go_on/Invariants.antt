use Rattle.benson_primal.specs.Chain.{IsChain}
use Rattle.benson_primal.proofs.chain.Chain.go_on.Given as goal

abbrev pub ghost-step : goal.ghost-step
ghost-step g a = g.task

abbrev pub invariant-loop-asked : goal.invariant-loop-asked
invariant-loop-asked g l = IsChain g.F.Field.value g.F.Field.holds g.task l.self
