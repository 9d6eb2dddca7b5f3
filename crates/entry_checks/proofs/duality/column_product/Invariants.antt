use Rattle.std.proofs.Common.{◌+◌}
use Rattle.std.specs.List.{zip}
use Rattle.upper_image.specs.Spots.{column}
use Rattle.entry_checks.proofs.Products.{IsSummed}
use Rattle.entry_checks.proofs.duality.column_product.Given as goal

abbrev pub invariant-loop-i : goal.invariant-loop-i
invariant-loop-i l = IsSummed (zip (column l.fn.vectors (l.fn.place + 1)) l.fn.weights) l.fn.counter.taken l.i l.counter.taken l.total
