use Rattle.std.proofs.Common.{◌≡◌}
use Rattle.vlp_problem.specs.Sides.{unit}
use Rattle.poly_calc.proofs.sides.unit_of.Given as goal

abbrev pub invariant-loop-before : goal.invariant-loop-before
invariant-loop-before l = l.entries ≡ unit l.before l.at
