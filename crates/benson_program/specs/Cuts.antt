-- The cut that an optimum of Benson's program is.
use Rattle.std.specs.Prelude.{◌≡◌, List, map}
use Rattle.exact_field.specs.Rational.{ℚ}
use Rattle.exact_field.specs.Vector.{dot}
use Rattle.frac128.specs.declared.vectors.Spot.{Spot}
use Rattle.vlp_problem.specs.Sides.{side_bounds}
use Rattle.vlp_problem.specs.declared.problem.Problem.{Problem}
use Rattle.upper_image.specs.Shows.{ShowsCut}
use Rattle.lp_form.specs.Programs.{u_of, w_of, v_of}
use Rattle.overflows.specs.Base.{IsBaseCut}
use Rattle.lp_form.specs.Sparse.{IsSparseOf}
use Rattle.lp_form.specs.declared.shown.Cut.{Cut}

-- the parts of a cut are read off z, and gamma is the bound that u proves; with its u and v as sparse vectors it is shown, and is a
-- base cut
pub record IsCutOf {F : Type 0} (value : F → ℚ) (file : Problem) (c z : List ℚ) (cut : Cut F) : Type 0 where
  pub u_read : map value cut.u ≡ u_of file z
  pub w_read : map value cut.w ≡ w_of file z
  pub v_read : map value cut.v ≡ v_of file file.cone z
  pub bound : value cut.gamma ≡ dot (side_bounds file) (map value cut.u)
  pub shown : (u v : List Spot) → IsSparseOf value cut.u u → IsSparseOf value cut.v v → ShowsCut file c (map value cut.w) (value cut.gamma) u v
  pub base : (u v : List Spot) → IsSparseOf value cut.u u → IsSparseOf value cut.v v → IsBaseCut file c (map value cut.w) u v
