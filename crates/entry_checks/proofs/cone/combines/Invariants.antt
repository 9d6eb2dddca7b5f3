use Rattle.entry_checks.specs.Parts.{entry_events}
use Rattle.std.proofs.Common.{length}
use Rattle.exact_field.specs.Vector.{entry}
use Rattle.vlp_problem.specs.Sides.{numbers_from}
use Rattle.entry_checks.proofs.Going.{IsAt}
use Rattle.entry_checks.proofs.cone.combines.Given as goal

abbrev pub invariant-loop-i : goal.invariant-loop-i
invariant-loop-i l =
    IsAt (λ i. entry_events l.fn.vectors l.fn.m (entry l.fn.e i) i)
    (numbers_from 1 (length l.fn.e)) l.fn.counter.taken l.i l.counter.taken
