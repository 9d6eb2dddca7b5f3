use Rattle.std.proofs.Common.{length}
use Rattle.exact_field.specs.Vector.{entry}
use Rattle.vlp_problem.specs.Sides.{numbers_from}
use Rattle.entry_checks.specs.Parts.{quotient_events}
use Rattle.entry_checks.proofs.Going.{IsAt}
use Rattle.entry_checks.proofs.duality.is_divided.Given as goal

abbrev pub invariant-loop-i : goal.invariant-loop-i
invariant-loop-i l = IsAt (λ i. quotient_events l.fn.divisor (entry l.fn.f i) (entry l.fn.c i)) (numbers_from 1 (length l.fn.f)) l.fn.counter.taken l.i l.counter.taken
