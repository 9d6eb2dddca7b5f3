use Rattle.std.proofs.Common.{All, IsTrue, take}
use Rattle.shown_program.specs.Marks.{mark_at}
use Rattle.shown_program.proofs.prices.are_tight.Given as goal

abbrev pub invariant-loop-column : goal.invariant-loop-column
invariant-loop-column l = All (λ c. IsTrue (mark_at l.tight c)) (take l.column-index l.columns)
