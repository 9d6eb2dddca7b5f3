use Rattle.entry_checks.proofs.Products.{IsSummed, of_spots}
use Rattle.entry_checks.proofs.steps.Steps.sparse_dot.Given as goal

abbrev pub invariant-loop-spot : goal.invariant-loop-spot
invariant-loop-spot l = IsSummed (of_spots l.fn.spots l.fn.w) l.fn.self.taken l.spot-index l.self.taken l.total
