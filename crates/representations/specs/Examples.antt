-- Small examples, each of which would fail if a definition were wrong.
use Rattle.std.specs.Prelude.{pos, negsuc, List, [], ◌∷◌, ◌≡◌}
use Rattle.exact_field.specs.Rational.{ℚ, zero_ℚ, one_ℚ, whole}
use Rattle.polyhedra.specs.Examples.{wholes, IsInQuadrant, left_side, lower_side}
use Rattle.polyhedra.specs.Inequality.{Inequality}
use Rattle.lineality.specs.Examples.{two_lines}
use Rattle.representations.specs.Dropped.{IsInOrthant, IsReducedUnit}
use Rattle.representations.specs.Faces.{at_value, IsBoundedBelow}
use Rattle.representations.specs.Facets.{MeetsAll, tight_at, IsLeastFor}
use Rattle.representations.specs.Lined.{pinned, AreReaders, unit_at, places_of, IsSpanned, AreLined, AreSidesOf, generator_rows, HoldsFor, EqualFor}
use Rattle.representations.specs.Needed.{AreOthers, held_by_all}
use Rattle.representations.specs.Projection.{spread, IsProjection, AreAssociated}
use Rattle.representations.specs.Scaled.{MeetsTimes, IsMultipleOf}

-- vectors in the plane
abbrev pub origin : List ℚ
origin = zero_ℚ ∷ zero_ℚ ∷ []

abbrev pub right : List ℚ
right = one_ℚ ∷ zero_ℚ ∷ []

abbrev pub upward : List ℚ
upward = zero_ℚ ∷ one_ℚ ∷ []

abbrev pub both : List ℚ
both = one_ℚ ∷ one_ℚ ∷ []

abbrev pub across : List ℚ
across = wholes (pos 1 ∷ negsuc 0 ∷ [])

-- ---- hulls and facets
-- the face of x + y = 1 of a triangle; x + y is at least 0 at the origin, grows to the right and is
-- level along (1, -1), but not along (1, 0); of the quadrant's sides x ≥ 0 is tight at (0, 1),
-- which lies in the quadrant and is least for the weights (1, 0), and not for (0, 1)
pub record FaceExample : Type 0 where
  pub face : at_value both one_ℚ (origin ∷ right ∷ upward ∷ []) ≡ right ∷ upward ∷ []
  pub bounded : IsBoundedBelow both zero_ℚ (origin ∷ []) (right ∷ []) (across ∷ [])
  pub not_bounded : IsBoundedBelow both zero_ℚ (origin ∷ []) [] (right ∷ []) → ⊥
  pub tight : tight_at upward (left_side ∷ lower_side ∷ []) ≡ left_side ∷ []
  pub meets : MeetsAll (left_side ∷ lower_side ∷ []) upward
  pub not_meets : MeetsAll (left_side ∷ lower_side ∷ []) across → ⊥
  pub least : IsLeastFor IsInQuadrant right upward
  pub not_least : IsLeastFor IsInQuadrant upward upward → ⊥

-- ---- cones with lines
-- (1, 0) reads the line (1, -1), and (1, 1) does not; the line and (0, 1) span the half plane
-- x + y ≥ 0, which has (2, -1), and not (-1, 0); the places of (1, 0, 2) and (0, 1, -1) are read by
-- the first two unit vectors in space
pub record LinedExample : Type 0 where
  pub pins : pinned (right ∷ []) (both ∷ []) ≡ right ∷ wholes (negsuc 0 ∷ pos 0 ∷ []) ∷ both ∷ []
  pub reads : AreReaders (right ∷ []) (across ∷ [])
  pub reads_not : AreReaders (both ∷ []) (across ∷ []) → ⊥
  pub lined : AreLined 2 (right ∷ []) (both ∷ []) (upward ∷ []) (across ∷ [])
  pub spanned : IsSpanned 2 (upward ∷ []) (across ∷ []) (wholes (pos 2 ∷ negsuc 0 ∷ []))
  pub not_spanned : IsSpanned 2 (upward ∷ []) (across ∷ []) (wholes (negsuc 0 ∷ pos 0 ∷ [])) → ⊥
  pub places : places_of 3 two_lines ≡ unit_at 0 2 ∷ unit_at 1 1 ∷ []
  pub unit : unit_at 1 1 ≡ zero_ℚ ∷ one_ℚ ∷ zero_ℚ ∷ []

-- ---- both representations
-- the half line y ≥ 0, of the point 0 and the direction 1; the rows of a point, a direction and a
-- line; z ≥ 1 holds at 1, with equality, at 2 without, and at 0 not; of (1, 0) and (0, 1) the other
-- of (1, 0) is (0, 1)
pub record SidesExample : Type 0 where
  pub sides : AreSidesOf 1 [] (upward ∷ right ∷ []) (upward ∷ right ∷ []) ((zero_ℚ ∷ []) ∷ [])
      ((one_ℚ ∷ []) ∷ []) []
  pub rows : generator_rows (wholes (pos 1 ∷ pos 2 ∷ []) ∷ []) (upward ∷ []) (right ∷ [])
      ≡ wholes (pos 1 ∷ pos 2 ∷ negsuc 0 ∷ []) ∷ wholes (pos 0 ∷ pos 1 ∷ pos 0 ∷ [])
      ∷ wholes (pos 1 ∷ pos 0 ∷ pos 0 ∷ []) ∷ wholes (negsuc 0 ∷ pos 0 ∷ pos 0 ∷ []) ∷ []
  pub holds : HoldsFor (one_ℚ ∷ []) both
  pub not_holds : HoldsFor (zero_ℚ ∷ []) both → ⊥
  pub equal : EqualFor (one_ℚ ∷ []) both
  pub not_equal : EqualFor (wholes (pos 2 ∷ [])) both → ⊥
  pub others : AreOthers (right ∷ upward ∷ []) (upward ∷ []) right
  pub not_others : AreOthers (right ∷ upward ∷ []) (right ∷ []) right → ⊥
  pub held : held_by_all 2 ≡ wholes (pos 0 ∷ pos 0 ∷ negsuc 0 ∷ [])

-- ---- projections
-- x ≥ 1; with twice its bound it is met by 2, and not by 1
abbrev pub from_one : Inequality
from_one = record { normal = one_ℚ ∷ []; bound = one_ℚ }

-- some (x, y) with x + y ≥ 1 and y ≤ 0 begins with 1, and none with 0; the objectives (x, -x) are
-- associated with this projection, and (x, -y) are not; (1, -1) has a negative entry; the reduction
-- along (1, -1) leaves (0, 1) of (1, 0); and 3 is twice a solution of x ≥ 1 and a direction
pub record ProjectionExample : Type 0 where
  pub spreads : spread (wholes (pos 1 ∷ pos 2 ∷ [])) ≡ wholes (pos 1 ∷ pos 2 ∷ negsuc 2 ∷ [])
  pub begins : IsProjection 2 1 (both ∷ wholes (pos 0 ∷ negsuc 0 ∷ []) ∷ []) right (one_ℚ ∷ [])
  pub begins_not : IsProjection 2 1 (both ∷ wholes (pos 0 ∷ negsuc 0 ∷ []) ∷ []) right
      (zero_ℚ ∷ []) → ⊥
  pub associated : AreAssociated 2 1 (right ∷ wholes (negsuc 0 ∷ pos 0 ∷ []) ∷ [])
  pub not_associated : AreAssociated 2 1 (right ∷ wholes (pos 0 ∷ negsuc 0 ∷ []) ∷ []) → ⊥
  pub in_orthant : IsInOrthant 2 upward
  pub not_in_orthant : IsInOrthant 2 across → ⊥
  pub left : IsReducedUnit 2 (across ∷ []) upward
  pub times : MeetsTimes (whole (pos 2)) (from_one ∷ []) (wholes (pos 2 ∷ []))
  pub not_times : MeetsTimes (whole (pos 2)) (from_one ∷ []) (one_ℚ ∷ []) → ⊥
  pub multiple : IsMultipleOf 1 (from_one ∷ []) (whole (pos 2)) (wholes (pos 3 ∷ []))
