-- Sparse vectors that show what an answer says: pre-images, dual vectors, the witnesses that the file is infeasible and that its image
-- is everything, and what shows a line.
use Rattle.std.specs.Prelude.{List, map, length}
use Rattle.exact_field.specs.Rational.{ℚ, zero_ℚ, neg_ℚ, ◌<ℚ◌}
use Rattle.exact_field.specs.Vector.{dot}
use Rattle.polyhedra.specs.Farkas.{IsDualVector}
use Rattle.polyhedra.specs.Inequality.{Inequality}
use Rattle.polyhedra.specs.Negatives.{negated}
use Rattle.polyhedra.specs.Vectors.{zeros}
use Rattle.upper_image.specs.OrderingCone.{IsInOrderingCone, Fits}
use Rattle.upper_image.specs.Spots.{dense, IsVector}
use Rattle.upper_image.specs.UpperImage.{normals, IsPreimage, IsDirectionPreimage, IsDualVectorOf, rest}
use Rattle.frac128.specs.declared.vectors.Spot.{Spot}
use Rattle.vlp_problem.specs.Sides.{sides, side_bounds, IsFeasible, IsRecession}
use Rattle.vlp_problem.specs.declared.problem.Problem.{Problem}

-- ---- pre-images
-- x is a sparse pre-image of the point y
pub record HasPreimage (file : Problem) (y : List ℚ) (x : List Spot) : Type 0 where
  pub vector : IsVector file.cols x
  pub shown : IsPreimage file y (dense file.cols x)

-- x is a sparse pre-image of the direction d
pub record HasDirectionPreimage (file : Problem) (d : List ℚ) (x : List Spot) : Type 0 where
  pub vector : IsVector file.cols x
  pub shown : IsDirectionPreimage file d (dense file.cols x)

-- u is a sparse dual vector of the inequality
pub record HasDualVector (file : Problem) (e : Inequality) (u : List Spot) : Type 0 where
  pub vector : IsVector (length (sides file)) u
  pub shown : IsDualVectorOf file e (dense (length (sides file)) u)

-- ---- no point, everything, and lines
-- no point meets all sides: u has no negative entry, the sides times u sum to 0, and the bounds times u to a positive number (Farkas)
pub record IsInfeasible (file : Problem) (u : List Spot) : Type 0 where
  pub vector : IsVector (length (sides file)) u
  pub balanced : IsDualVector file.cols (normals file) (zeros file.cols) (dense (length (sides file)) u)
  pub bound : zero_ℚ <ℚ dot (side_bounds file) (dense (length (sides file)) u)

-- the image is everything: there is a feasible x, and -c is in the image's recession cone, with ray as pre-image
pub record IsWhole (file : Problem) (c : List ℚ) (x ray : List Spot) : Type 0 where
  pub fits : Fits file c
  pub x_vector : IsVector file.cols x
  pub feasible : IsFeasible file (dense file.cols x)
  pub ray_vector : IsVector file.cols ray
  pub recedes : IsRecession file (dense file.cols ray)
  pub against : IsInOrderingCone file (rest file (map neg_ℚ c) (dense file.cols ray))

-- the lineality space of the image has d: ray is a sparse pre-image of d, and back one of -d
pub record IsShownLine (file : Problem) (d : List ℚ) (ray back : List Spot) : Type 0 where
  pub forth : HasDirectionPreimage file d ray
  pub back_too : HasDirectionPreimage file (negated d) back
