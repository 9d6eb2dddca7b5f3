-- What shows that the image is everything, read off Benson's program at the origin.
use Rattle.std.specs.Prelude.{ℕ, ◌≡◌, true, List, map, length}
use Rattle.exact_field.specs.Rational.{ℚ, neg_ℚ}
use Rattle.frac128.specs.declared.vectors.Spot.{Spot}
use Rattle.polyhedra.specs.Vectors.{zeros}
use Rattle.vlp_problem.specs.Sides.{IsFeasible}
use Rattle.vlp_problem.specs.declared.problem.Problem.{Problem}
use Rattle.upper_image.specs.OrderingCone.{Fits}
use Rattle.upper_image.specs.Shows.{ShowsAbove, ShowsRecession}
use Rattle.upper_image.specs.Spots.{dense, IsVector}
use Rattle.upper_image.specs.Witnesses.{IsWhole}
use Rattle.lp_form.specs.Programs.{generators, benson_system}
use Rattle.overflows.specs.Trails.{IsBaseWhole}
use Rattle.benson_program.specs.Ends.{IsEmptyAt}
use Rattle.lp_form.specs.Sparse.{IsSparseOf}
use Rattle.benson_program.specs.declared.whole.WholeParts.{WholeParts}

-- y are the multipliers that show that Benson's program for c at the origin, as a point, has no solution
pub record AreEmptyAtOrigin (file : Problem) (c y : List ℚ) : Type 0 where
  pub c_wide : length c ≡ file.objs
  pub basis : List ℕ
  pub empty : IsEmptyAt (benson_system file c (zeros file.objs) true) basis y

-- the ray and m, as sparse vectors, are those of a base `whole`: the ray is a direction of the feasible set whose objectives are below
-- -c, as m shows; so with a feasible point the image is everything
pub record IsWholeOf {F : Type 0} (value : F → ℚ) (file : Problem) (c : List ℚ) (parts : WholeParts F) : Type 0 where
  pub ray_wide : length parts.ray ≡ file.cols
  pub m_wide : length parts.m ≡ length (generators file.cone)
  pub base : (ray m : List Spot) → IsSparseOf value parts.ray ray → IsSparseOf value parts.m m → IsBaseWhole file c ray m
  pub recedes : (ray : List Spot) → IsSparseOf value parts.ray ray → ShowsRecession file ray
  pub above : (ray m : List Spot) → IsSparseOf value parts.ray ray → IsSparseOf value parts.m m → ShowsAbove file (map neg_ℚ c) ray m
  pub whole : (x ray : List Spot) → IsSparseOf value parts.ray ray → Fits file c → IsVector file.cols x → IsFeasible file (dense file.cols x) →
      IsWhole file c x ray
