use Rattle.std.proofs.Common.{◌≡◌, drop, map}
use Rattle.polyhedra.specs.DoubleDescription.{leading}
use Rattle.double_descr.proofs.points.leading_entry.Given as goal

abbrev pub invariant-loop-entry : goal.invariant-loop-entry
invariant-loop-entry g l = leading (drop l.entry-index (map g.F.Field.value l.vector)) ≡ leading (map g.F.Field.value l.vector)
