-- What is proved of cones, images and witnesses.
use Rattle.std.specs.Prelude.{◌≡◌, ◌↔◌, ◌-◌, ◌<◌, ◌++◌, ◌∷◌, [], ℕ, List, map, length}
use Rattle.exact_field.specs.Rational.{ℚ, zero_ℚ, one_ℚ, neg_ℚ, ◌-ℚ◌}
use Rattle.lineality.specs.Exactness.{IsExactAlong}
use Rattle.lineality.specs.Lines.{IsInLineality}
use Rattle.polyhedra.specs.Negatives.{negated}
use Rattle.polyhedra.specs.Hull.{IsConvex, IsValidAt, IsVertex, IsFacet, IsExtremeDirection, IsNormedDirection}
use Rattle.polyhedra.specs.Image.{IsConvexCone}
use Rattle.polyhedra.specs.Inequality.{Inequality}
use Rattle.polyhedra.specs.LowerImage.{completed, IsRecession}
use Rattle.polyhedra.specs.Vectors.{zeros}
use Rattle.upper_image.specs.OrderingCone.{IsInOrderingCone, IsInDualCone, IsInteriorToCone, IsAbsorbed, dual_of, Fits}
use Rattle.upper_image.specs.Shows.{ShowsIn, ShowsFitting, ShowsFeasible, ShowsRecession, ShowsAbove, ShowsCut}
use Rattle.upper_image.specs.UpperImage.{IsInWorkingImage, IsWorkingDirection, IsInImage, IsDirection, IsPreimage, IsDirectionPreimage, IsDualVectorOf, IsValidFor, IsExactFor, IsInLowerImageOf, phi, turned, signed, working}
use Rattle.upper_image.specs.Witnesses.{IsInfeasible, IsWhole}
use Rattle.exact_field.specs.Vector.{dot, front}
use Rattle.frac128.specs.declared.vectors.Spot.{Spot}
use Rattle.vlp_problem.specs.Sides.{IsFeasible}
use Rattle.vlp_problem.specs.declared.problem.Problem.{Problem}

-- ---- the cone
-- the ordering cone is a convex cone
abbrev pub OrderingConeIsConvex : Type 0
OrderingConeIsConvex = (file : Problem) → IsConvexCone file.objs (IsInOrderingCone file)

-- multipliers and values at rows show that a vector is in the ordering cone, or in its dual cone
abbrev pub ConeShown : Type 0
ConeShown = (file : Problem) (e : List ℚ) (m : List Spot) → length e ≡ file.objs → ShowsIn file.cone e m → IsInOrderingCone file e

abbrev pub DualConeShown : Type 0
DualConeShown = (file : Problem) (w : List ℚ) (v : List Spot) → length w ≡ file.objs → ShowsIn (dual_of file.cone) w v → IsInDualCone file w

-- a duality vector with what shows that it is interior fits the file
abbrev pub DualityFits : Type 0
DualityFits = (file : Problem) (c weights : List ℚ) (picks : List ℕ) (inverse : List ℚ) → ShowsFitting file c weights picks inverse → Fits file c

-- far enough along an interior vector of the cone, each vector is in the cone
abbrev pub InteriorAbsorbs : Type 0
InteriorAbsorbs = (file : Problem) (c v : List ℚ) → IsInteriorToCone file c → length v ≡ file.objs → IsAbsorbed (IsInOrderingCone file) c v

-- ---- the image
-- the image is convex, with the image for bounds 0 as its directions
abbrev pub UpperImageIsConvex : Type 0
UpperImageIsConvex = (file : Problem) → IsConvex file.objs (IsInWorkingImage file) (IsWorkingDirection file)

-- a pre-image shows that its point is in the image
abbrev pub PreimageShows : Type 0
PreimageShows = (file : Problem) (y x : List ℚ) → IsPreimage file y x → IsInImage file y

-- and one of a direction, that it is in the recession cone
abbrev pub DirectionPreimageShows : Type 0
DirectionPreimageShows = (file : Problem) (d x : List ℚ) → IsDirectionPreimage file d x → IsDirection file d

-- a dual vector shows that its inequality is valid: weak duality
abbrev pub DualVectorShows : Type 0
DualVectorShows = (file : Problem) (e : Inequality) (u : List ℚ) → IsDualVectorOf file e u → IsValidFor file e

-- the tests of a log show that a vector is in the image, that it is in its recession cone, and that a cut is valid, in working
-- coordinates
abbrev pub PointShown : Type 0
PointShown = (file : Problem) (y : List ℚ) (x m : List Spot) → length y ≡ file.objs → ShowsFeasible file x → ShowsAbove file y x m →
    IsInWorkingImage file y

abbrev pub RayShown : Type 0
RayShown = (file : Problem) (d : List ℚ) (x m : List Spot) → length d ≡ file.objs → ShowsRecession file x → ShowsAbove file d x m →
    IsWorkingDirection file d

abbrev pub CutShown : Type 0
CutShown = (file : Problem) (c w : List ℚ) (gamma : ℚ) (u v : List Spot) → ShowsCut file c w gamma u v →
    IsValidAt file.objs (IsInWorkingImage file) c record { normal = w; bound = gamma }

-- ---- the file's coordinates
-- what is exact in working coordinates is exact in those of the file
abbrev pub ExactInFile : Type 0
ExactInFile = (file : Problem) (c : List ℚ) (lines points directions : List (List ℚ)) (facets : List Inequality) →
    IsExactAlong file.objs (IsInWorkingImage file) (IsWorkingDirection file) c lines (map (turned file.dir) points) (map (turned file.dir) directions)
    (map (working file) facets) →
    IsExactFor file c lines points directions facets

-- ---- geometric duality
-- the vertices of the lower image are the facets: each by all entries of its normal but the last, and its bound
abbrev pub LowerVerticesAreFacets : Type 0
LowerVerticesAreFacets = (file : Problem) (c w : List ℚ) (bound : ℚ) → Fits file c → length w ≡ file.objs - 1 →
    IsVertex (IsInLowerImageOf file c) (w ++ bound ∷ [])
    ↔ IsFacet file.objs (IsInWorkingImage file) c (working file (completed (front c) w bound))

-- where the image and the lower image are not empty, the lower image has one normed extreme direction, that in which the bound says
-- less
abbrev pub OneLowerDirection : Type 0
OneLowerDirection = (file : Problem) (c y v : List ℚ) → Fits file c → IsInWorkingImage file y → IsInLowerImageOf file c v → (d : List ℚ) →
    (IsExtremeDirection file.objs (IsRecession file.objs (IsInLowerImageOf file c)) d × IsNormedDirection d)
    ↔ (d ≡ zeros (file.objs - 1) ++ signed file.dir (neg_ℚ one_ℚ) ∷ [])

-- the coupling of a vector with an inequality is the product with its normal minus its bound
abbrev pub CouplingIsSlack : Type 0
CouplingIsSlack = (q : ℕ) (y w c : List ℚ) (bound : ℚ) → 0 < q → length y ≡ q → length w ≡ q - 1 →
    phi q y (w ++ bound ∷ []) c ≡ dot (completed (front c) w bound).normal y -ℚ bound

-- ---- witnesses
-- no point is feasible
abbrev pub InfeasibleIsEmpty : Type 0
InfeasibleIsEmpty = (file : Problem) (u : List Spot) → IsInfeasible file u → (x : List ℚ) → IsFeasible file x → ⊥

-- every vector is in the image
abbrev pub WholeIsAll : Type 0
WholeIsAll = (file : Problem) (c : List ℚ) (x ray : List Spot) → IsWhole file c x ray →
    (y : List ℚ) → length y ≡ file.objs → IsInImage file y

-- ---- lines
-- pre-images of d and of -d show that d is in the lineality space of the image
abbrev pub LineShown : Type 0
LineShown = (file : Problem) (d x y : List ℚ) → IsDirectionPreimage file d x → IsDirectionPreimage file (negated d) y → IsInLineality (IsDirection file) d

-- a cut that is shown is level along each vector of the lineality space, whether the image is empty or not
abbrev pub CutsAreLevel : Type 0
CutsAreLevel = (file : Problem) (c w : List ℚ) (gamma : ℚ) (u v : List Spot) (d : List ℚ) → ShowsCut file c w gamma u v →
    IsInLineality (IsWorkingDirection file) d → dot w d ≡ zero_ℚ
