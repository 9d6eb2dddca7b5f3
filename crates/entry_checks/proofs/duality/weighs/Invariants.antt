use Rattle.std.proofs.Common.{length}
use Rattle.exact_field.specs.Vector.{entry}
use Rattle.vlp_problem.specs.Sides.{numbers_from}
use Rattle.entry_checks.specs.Parts.{weight_events}
use Rattle.entry_checks.proofs.Going.{IsAt}
use Rattle.entry_checks.proofs.duality.weighs.Given as goal

abbrev pub invariant-loop-i : goal.invariant-loop-i
invariant-loop-i l = IsAt (λ i. weight_events l.fn.vectors l.fn.weights (entry l.fn.c i) i) (numbers_from 1 (length l.fn.c)) l.fn.counter.taken l.i l.counter.taken
