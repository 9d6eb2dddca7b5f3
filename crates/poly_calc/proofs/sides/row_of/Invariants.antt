use Rattle.std.proofs.Common.{◌≡◌, map}
use Rattle.vlp_problem.specs.Cells.{coefficient}
use Rattle.vlp_problem.specs.Sides.{numbers_from}
use Rattle.poly_calc.proofs.sides.row_of.Given as goal

abbrev pub invariant-loop-before : goal.invariant-loop-before
invariant-loop-before l = l.entries ≡ map (λ j. coefficient l.problem.a l.row j) (numbers_from 1 l.before)
