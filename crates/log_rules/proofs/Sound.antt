-- What is taken of single entries: the image is convex, a cut is valid, and pre-images show points
-- and directions.
use Rattle.std.proofs.Common.{◌≡◌, List, length}
use Rattle.exact_field.specs.Rational.{ℚ, zero_ℚ}
use Rattle.exact_field.specs.Vector.{dot}
use Rattle.lineality.specs.Lines.{IsInLineality}
use Rattle.frac128.specs.declared.vectors.Spot.{Spot}
use Rattle.polyhedra.specs.Hull.{IsConvex, IsValidAt}
use Rattle.upper_image.specs.Shows.{ShowsFeasible, ShowsRecession, ShowsAbove, ShowsCut}
use Rattle.upper_image.specs.UpperImage.{IsInWorkingImage, IsWorkingDirection}
use Rattle.vlp_problem.specs.declared.problem.Problem.{Problem}

-- the rules of single entries say what is true of the image
pub record AreSound (file : Problem) : Type 0 where
  pub convex : IsConvex file.objs (IsInWorkingImage file) (IsWorkingDirection file)
  pub cut : (c w : List ℚ) (gamma : ℚ) (u v : List Spot) → ShowsCut file c w gamma u v →
      IsValidAt file.objs (IsInWorkingImage file) c (record { normal = w; bound = gamma })
  pub point : (y : List ℚ) (x m : List Spot) → length y ≡ file.objs → ShowsFeasible file x → ShowsAbove file y x m → IsInWorkingImage file y
  pub direction : (d : List ℚ) (x m : List Spot) → length d ≡ file.objs → ShowsRecession file x → ShowsAbove file d x m → IsWorkingDirection file d
  pub level : (c w : List ℚ) (gamma : ℚ) (u v : List Spot) (d : List ℚ) → ShowsCut file c w gamma u v → IsInLineality (IsWorkingDirection file) d → dot w d ≡ zero_ℚ
