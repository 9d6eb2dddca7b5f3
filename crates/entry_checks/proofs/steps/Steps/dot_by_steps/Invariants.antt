use Rattle.std.specs.List.{zip}
use Rattle.entry_checks.proofs.Products.{IsSummed}
use Rattle.entry_checks.proofs.steps.Steps.dot_by_steps.Given as goal

abbrev pub invariant-loop-i : goal.invariant-loop-i
invariant-loop-i l = IsSummed (zip l.fn.v l.fn.w) l.fn.self.taken l.i l.self.taken l.total
