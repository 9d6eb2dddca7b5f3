use Rattle.std.proofs.Common.{◌≡◌, ◌++◌, suc, map}
use Rattle.exact_field.specs.Rational.{one_ℚ, neg_ℚ}
use Rattle.vlp_problem.specs.Sides.{numbers_from}
use Rattle.projection.specs.Associated.{cell}
use Rattle.projection.proofs.problem.objectives.Given as goal

-- the first columns have their cells
abbrev pub invariant-loop-before : goal.invariant-loop-before
invariant-loop-before l = l.cells ≡ map (λ j. cell j j one_ℚ) (numbers_from 1 l.before)

-- and then those of the last row
abbrev pub invariant-loop-before-2 : goal.invariant-loop-before-2
invariant-loop-before-2 l = l.cells ≡ map (λ j. cell j j one_ℚ) (numbers_from 1 l.k) ++ map (λ j. cell (suc l.k) j (neg_ℚ one_ℚ)) (numbers_from 1 l.before)
