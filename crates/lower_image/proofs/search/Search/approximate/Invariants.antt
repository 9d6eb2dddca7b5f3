use Rattle.overflows.proofs.RowTurns.{row_turns_end}
use Rattle.lower_image.specs.Search.{IsSearching}
use Rattle.lower_image.proofs.search.Search.approximate.Given as goal

abbrev pub ghost-turn : goal.ghost-turn
ghost-turn g a = g.task

abbrev pub invariant-loop : goal.invariant-loop
invariant-loop g l = IsSearching g.F.Field.value g.F.Field.holds g.task l.self

abbrev pub decreases-loop : goal.decreases-loop
decreases-loop g l = (row_turns_end g.task.file g.task.c).0 l.self.dd.rows
