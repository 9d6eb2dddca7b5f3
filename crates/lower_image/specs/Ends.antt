-- How the program of a weight ends.
use Rattle.std.specs.Prelude.{List, map}
use Rattle.exact_field.specs.Rational.{ℚ}
use Rattle.vlp_problem.specs.Sides.{IsFeasible}
use Rattle.vlp_problem.specs.declared.problem.Problem.{Problem}
use Rattle.lp_form.specs.Data.{IsDataOf}
use Rattle.lp_form.specs.Programs.{weight_system}
use Rattle.lp_form.specs.declared.data.Data.{Data}
use Rattle.benson_program.specs.Ends.{IsOptimumAt, IsEmptyAt}
use Rattle.lower_image.specs.declared.ends.WeightEnd.{WeightEnd}
use Rattle.lower_image.specs.declared.ends.WeightEnd.TheVariants.{Optimal, Empty}

-- the data stand for some file that has a feasible point: so the program of a weight is bounded
pub record CanWeigh {F : Type 0} (value : F → ℚ) (form : Data F) : Type 0 where
  pub file : Problem
  pub stands : IsDataOf value file form
  pub solvable : (x : List ℚ) × IsFeasible file x

-- an optimum, or multipliers that show that there is no solution
abbrev pub IsWeightEnd : {F : Type 0} → (F → ℚ) → Problem → List ℚ → WeightEnd F → Type 0
IsWeightEnd value file w (Optimal z dual basis) = IsOptimumAt (weight_system file w) basis (map value z) (map value dual)
IsWeightEnd value file w (Empty dual basis) = IsEmptyAt (weight_system file w) basis (map value dual)
