use Rattle.word_lines.proofs.Taken.{AreTaken}
use Rattle.word_lines.proofs.parts.take_spots.Given as goal

abbrev pub invariant-loop : goal.invariant-loop
invariant-loop l = AreTaken l.count l.initial.words l.words l.counter l.last l.spots
