-- How the cone of dual vectors begins.
use Rattle.std.specs.Prelude.{suc, ◌≡◌, true, false, List, ◌∷◌, map}
use Rattle.exact_field.specs.Rational.{ℚ}
use Rattle.double_descr.specs.State.{State as Description}
use Rattle.vlp_problem.specs.declared.problem.Problem.{Problem}
use Rattle.overflows.specs.Base.{image_of}
use Rattle.geo_duality.specs.Rows.{exchange_row}
use Rattle.outer_approx.specs.Task.{Task}
use Rattle.lower_image.specs.Lower.{IsLower}

-- the rows of a feasible point and of directions of the ordering cone
abbrev pub first_rows : Problem → List ℚ → List ℚ → List (List ℚ) → List (List ℚ)
first_rows file c x es = exchange_row c (image_of file x) true ∷ map (λ e. exchange_row c e false) es

-- the double description is that of rows over dual vectors
pub record IsLowerDescription (task : Task) (dd : Description) : Type 0 where
  pub width : dd.width ≡ suc task.file.objs
  pub lower : IsLower task.file task.c dd.rows dd.list
