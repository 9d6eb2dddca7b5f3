use Rattle.word_lines.proofs.Taken.{IsTaken}
use Rattle.word_lines.proofs.items.take_items.Given as goal

abbrev pub invariant-loop : goal.invariant-loop
invariant-loop g l = IsTaken g.T.Printed.words_of g.T.Item.is_good g.T.Item.step l.count l.initial.words l.words l.counter l.items
