use Rattle.overflows.proofs.CutTurns.{cut_turns_end}
use Rattle.outer_approx.specs.Standing.{rows_of_trail}
use Rattle.benson_primal.specs.Search.{IsSearching}
use Rattle.benson_primal.proofs.search.Search.approximate.Given as goal

abbrev pub ghost-turn : goal.ghost-turn
ghost-turn g a = g.task

abbrev pub invariant-loop : goal.invariant-loop
invariant-loop g l = IsSearching g.F.Field.value g.F.Field.holds g.task l.self

abbrev pub decreases-loop : goal.decreases-loop
decreases-loop g l = (cut_turns_end g.task.file g.task.c).0 (rows_of_trail g.task l.self.trail)
