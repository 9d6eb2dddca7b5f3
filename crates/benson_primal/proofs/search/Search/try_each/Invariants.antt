use Rattle.benson_primal.specs.Search.{IsSearching}
use Rattle.benson_primal.proofs.search.Search.try_each.Given as goal

abbrev pub ghost-try_place : goal.ghost-try_place
ghost-try_place g a = g.task

abbrev pub invariant-loop-i : goal.invariant-loop-i
invariant-loop-i g l = IsSearching g.F.Field.value g.F.Field.holds g.task l.self
