-- The multipliers of Benson's program from which a pre-image is read off.
use Rattle.std.specs.Prelude.{ℕ, ◌≡◌, Bool, List, length}
use Rattle.exact_field.specs.Rational.{ℚ, zero_ℚ, ◌≤ℚ◌}
use Rattle.vlp_problem.specs.declared.problem.Problem.{Problem}
use Rattle.lp_form.specs.Programs.{benson_system, value_of}
use Rattle.benson_program.specs.Ends.{IsOptimumAt}

-- y are the multipliers of an optimum of Benson's program for c at v, and its value is at most 0
pub record AreLowMultipliers (file : Problem) (c v : List ℚ) (t : Bool) (y : List ℚ) : Type 0 where
  pub c_wide : length c ≡ file.objs
  pub v_wide : length v ≡ file.objs
  pub basis : List ℕ
  pub solution : List ℚ
  pub optimum : IsOptimumAt (benson_system file c v t) basis solution y
  pub low : value_of y ≤ℚ zero_ℚ
