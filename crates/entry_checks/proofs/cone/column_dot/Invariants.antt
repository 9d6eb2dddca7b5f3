use Rattle.std.proofs.Common.{◌+◌}
use Rattle.upper_image.specs.Spots.{column}
use Rattle.entry_checks.proofs.Products.{IsSummed, at_spots}
use Rattle.entry_checks.proofs.cone.column_dot.Given as goal

abbrev pub invariant-loop-spot : goal.invariant-loop-spot
invariant-loop-spot l = IsSummed (at_spots (column l.fn.vectors (l.fn.place + 1)) l.fn.m) l.fn.counter.taken l.spot-index l.counter.taken l.total
