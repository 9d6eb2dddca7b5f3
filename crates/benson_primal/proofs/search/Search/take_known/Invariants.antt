use Rattle.benson_primal.specs.Search.{IsSearching}
use Rattle.benson_primal.proofs.search.Search.take_known.Given as goal

abbrev pub ghost-try_each : goal.ghost-try_each
ghost-try_each g a = g.task

abbrev pub invariant-loop-round : goal.invariant-loop-round
invariant-loop-round g l = IsSearching g.F.Field.value g.F.Field.holds g.task l.self
