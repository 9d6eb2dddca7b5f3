-- What is proved of projections and associated problems.
use Rattle.std.specs.Prelude.{◌≡◌, ◌↔◌, ℕ, ◌≤◌, List, map, length, take, filter, All, Contains}
use Rattle.exact_field.specs.Rational.{ℚ, zero_ℚ}
use Rattle.exact_field.specs.Order.{same_ℚ}
use Rattle.exact_field.specs.Vector.{sum_ℚ}
use Rattle.frac128.specs.declared.vectors.Spot.{Spot}
use Rattle.lineality.specs.Exactness.{IsSolvedAlong}
use Rattle.polyhedra.specs.Hull.{IsInHull}
use Rattle.polyhedra.specs.Inequality.{Inequality}
use Rattle.polyhedra.specs.Vectors.{zeros}
use Rattle.representations.specs.Facets.{MeetsAll}
use Rattle.representations.specs.Projection.{spread, AreAssociated}
use Rattle.upper_image.specs.UpperImage.{objectives, IsInWorkingImage, IsWorkingDirection, IsExactFor, IsDirectionPreimage}
use Rattle.upper_image.specs.Witnesses.{IsWhole}
use Rattle.vlp_problem.specs.Sides.{sides}
use Rattle.vlp_problem.specs.declared.problem.Problem.{Problem}
use Rattle.projection.specs.Associated.{Begins, IsAssociated, IsInProjection, IsInProjectedRecession}

-- the associated problem has the sides of the file, and its objectives take x to its first k entries
-- and minus their sum
pub record AssociatedHas (k : ℕ) (file made : Problem) : Type 0 where
  pub same_sides : sides made ≡ sides file
  pub values : AreAssociated file.cols k (objectives made)

-- so it is for every associated problem
abbrev pub AssociatedIsAssociated : Type 0
AssociatedIsAssociated = (k : ℕ) (file made : Problem) → k ≤ file.cols →
    IsAssociated k file made → AssociatedHas k file made

-- z is in the projection exactly where z, followed by minus the sum of its entries, is in the
-- associated image; the same of directions
pub record IsSliceOf (k : ℕ) (file made : Problem) : Type 0 where
  pub points : (z : List ℚ) → length z ≡ k →
      IsInWorkingImage made (spread z) ↔ IsInProjection file k z
  pub directions : (d : List ℚ) → length d ≡ k →
      IsWorkingDirection made (spread d) ↔ IsInProjectedRecession file k d

-- so it is for every associated problem
abbrev pub ProjectionIsSliceOf : Type 0
ProjectionIsSliceOf = (k : ℕ) (file made : Problem) → k ≤ file.cols → IsAssociated k file made →
    IsSliceOf k file made

-- the associated image is not everything
abbrev pub NeverWhole : Type 0
NeverWhole = (k : ℕ) (file made : Problem) (c : List ℚ) (x ray : List Spot) → k ≤ file.cols →
    IsAssociated k file made → IsWhole made c x ray → ⊥

-- the entries sum to 0
abbrev pub IsLevel : List ℚ → Type 0
IsLevel y = sum_ℚ y ≡ zero_ℚ

-- the lines and points of the associated image are level
pub record AreLevel (lines points : List (List ℚ)) : Type 0 where
  pub lines_level : All IsLevel lines
  pub points_level : All IsLevel points

-- so it is where they describe this image exactly
abbrev pub PointsAreLevel : Type 0
PointsAreLevel = (k : ℕ) (file made : Problem) (c : List ℚ)
    (lines points directions : List (List ℚ)) (facets : List Inequality) → k ≤ file.cols →
    IsAssociated k file made → IsExactFor made c lines points directions facets →
    AreLevel lines points

-- a listed direction is level exactly where its first k entries are those of its pre-image, and not
-- all of them 0
abbrev pub LevelDirections : Type 0
LevelDirections = (k : ℕ) (file made : Problem) (c : List ℚ)
    (lines points directions : List (List ℚ)) (facets : List Inequality) → k ≤ file.cols →
    IsAssociated k file made → IsExactFor made c lines points directions facets →
    (d x : List ℚ) → Contains directions d → IsDirectionPreimage made d x →
    IsLevel d ↔ (Begins k x (take k d) × (take k d ≡ zeros k → ⊥))

-- vectors without the entries after the first k, and those whose entries sum to 0
abbrev pub fronts : ℕ → List (List ℚ) → List (List ℚ)
fronts k vs = map (take k) vs

abbrev pub level_only : List (List ℚ) → List (List ℚ)
level_only vs = filter (λ v. same_ℚ (sum_ℚ v) zero_ℚ) vs

-- the projection is the hull of the points, of the level directions and of the lines, all without
-- last entries
abbrev pub ProjectionIsHull : Type 0
ProjectionIsHull = (k : ℕ) (file made : Problem) (c : List ℚ)
    (lines points directions : List (List ℚ)) (facets : List Inequality) → k ≤ file.cols →
    IsAssociated k file made → IsExactFor made c lines points directions facets → (z : List ℚ) →
    IsInProjection file k z
    ↔ IsInHull k (fronts k points) (fronts k (level_only directions)) (fronts k lines) z

-- and z is in it exactly where z, followed by minus the sum of its entries, meets the facets of the
-- associated image
abbrev pub ProjectionIsCutOut : Type 0
ProjectionIsCutOut = (k : ℕ) (file made : Problem) (c : List ℚ) (lines : List (List ℚ))
    (cuts : List Inequality) (generators points directions : List (List ℚ))
    (named : List Inequality) → k ≤ file.cols → IsAssociated k file made →
    IsSolvedAlong made.objs (IsInWorkingImage made) (IsWorkingDirection made) c lines cuts
    generators points directions named →
    (z : List ℚ) → length z ≡ k → IsInProjection file k z ↔ MeetsAll named (spread z)
