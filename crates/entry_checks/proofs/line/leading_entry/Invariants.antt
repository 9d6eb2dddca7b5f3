use Rattle.std.proofs.Common.{◌≡◌, drop}
use Rattle.polyhedra.specs.DoubleDescription.{leading}
use Rattle.entry_checks.proofs.line.leading_entry.Given as goal

abbrev pub invariant-loop-x : goal.invariant-loop-x
invariant-loop-x l = leading l.v ≡ leading (drop l.x-index l.v)
