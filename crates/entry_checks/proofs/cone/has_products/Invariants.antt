use Rattle.entry_checks.specs.Parts.{product_events}
use Rattle.entry_checks.proofs.Going.{IsAt}
use Rattle.entry_checks.proofs.cone.has_products.Given as goal

abbrev pub invariant-loop-vector : goal.invariant-loop-vector
invariant-loop-vector l =
    IsAt (product_events l.fn.e) l.fn.vectors l.fn.counter.taken l.vector-index l.counter.taken
