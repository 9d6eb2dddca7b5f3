use Rattle.entry_checks.proofs.Products.{IsSummed, at_spots}
use Rattle.entry_checks.proofs.steps.Steps.dot_sparse.Given as goal

abbrev pub invariant-loop-spot : goal.invariant-loop-spot
invariant-loop-spot l = IsSummed (at_spots l.fn.v l.fn.spots) l.fn.self.taken l.spot-index l.self.taken l.total
