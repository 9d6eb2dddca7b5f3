-- Pre-images that are read off Benson's program.
use Rattle.std.specs.Prelude.{◌≡◌, Bool, true, false, List, length}
use Rattle.exact_field.specs.Rational.{ℚ}
use Rattle.frac128.specs.declared.vectors.Spot.{Spot}
use Rattle.vlp_problem.specs.declared.problem.Problem.{Problem}
use Rattle.upper_image.specs.Shows.{ShowsAbove, ShowsFeasible, ShowsRecession}
use Rattle.lp_form.specs.Programs.{generators}
use Rattle.lp_form.specs.Sparse.{IsSparseOf}
use Rattle.lp_form.specs.declared.shown.Preimage.{Preimage}
use Rattle.overflows.specs.Trails.{AreReadAt}

-- x is shown feasible, or where v is a direction to be one of the feasible set
abbrev pub ShowsChosen : Problem → Bool → List Spot → Type 0
ShowsChosen file true x = ShowsFeasible file x
ShowsChosen file false x = ShowsRecession file x

-- x and m, as sparse vectors, are read off at v, and show that v is in the image, or in its recession
-- cone where it is a direction
pub record IsPreimageOf {F : Type 0} (value : F → ℚ) (file : Problem) (c weights v : List ℚ) (t : Bool) (parts : Preimage F) : Type 0 where
  pub x_wide : length parts.x ≡ file.cols
  pub m_wide : length parts.m ≡ length (generators file.cone)
  pub read : (x m : List Spot) → IsSparseOf value parts.x x → IsSparseOf value parts.m m → AreReadAt file c weights v t x m
  pub chosen : (x : List Spot) → IsSparseOf value parts.x x → ShowsChosen file t x
  pub above : (x m : List Spot) → IsSparseOf value parts.x x → IsSparseOf value parts.m m → ShowsAbove file v x m
