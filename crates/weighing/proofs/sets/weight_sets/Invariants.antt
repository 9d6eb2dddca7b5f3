use Rattle.std.proofs.Common.{◌≡◌, map}
use Rattle.vlp_problem.specs.Sides.{numbers_from}
use Rattle.weighing.specs.Sets.{lists_with}
use Rattle.weighing.proofs.sets.weight_sets.Given as goal

abbrev pub invariant-loop-before : goal.invariant-loop-before
invariant-loop-before l = l.sets ≡ map (lists_with l.tight) (numbers_from 1 l.before)
