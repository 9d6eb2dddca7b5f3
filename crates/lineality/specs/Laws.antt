-- What is proved of lines.
use Rattle.std.specs.Prelude.{ℕ, List, [], ◌≡◌, ◌↔◌, map}
use Rattle.exact_field.specs.Rational.{ℚ}
use Rattle.polyhedra.specs.Exactness.{IsExact, SameMembers}
use Rattle.polyhedra.specs.Hull.{IsInHull, IsVertex, IsExtremeDirection}
use Rattle.polyhedra.specs.Image.{IsConvexCone}
use Rattle.polyhedra.specs.Inequality.{Inequality}
use Rattle.polyhedra.specs.Negatives.{negated, Negatives}
use Rattle.lineality.specs.Exactness.{IsExactAlong}
use Rattle.lineality.specs.Lines.{AreLines, IsReducedIn}

-- a set has one list of lines
abbrev pub OneListOfLines : (List ℚ → Type 0) → Type 0
OneListOfLines Directions = (n : ℕ) (lines lines' : List (List ℚ)) → IsConvexCone n Directions →
    AreLines n Directions lines → AreLines n Directions lines' → lines ≡ lines'

-- two lists of points, directions and facets that are exact for one set along lines have the same
-- lines, and the same members
pub record AreSameAlong (lines lines' points points' directions directions' : List (List ℚ))
    (facets facets' : List Inequality) : Type 0 where
  pub lines_same : lines ≡ lines'
  pub points_same : SameMembers points points'
  pub directions_same : SameMembers directions directions'
  pub facets_same : SameMembers facets facets'

-- where the directions are a convex cone, two exact descriptions along lines are the same
abbrev pub OneDescriptionAlong : (List ℚ → Type 0) → (List ℚ → Type 0) → Type 0
OneDescriptionAlong Set Directions = (n : ℕ) (c : List ℚ)
    (lines lines' points points' directions directions' : List (List ℚ))
    (facets facets' : List Inequality) → IsConvexCone n Directions →
    IsExactAlong n Set Directions c lines points directions facets →
    IsExactAlong n Set Directions c lines' points' directions' facets' →
    AreSameAlong lines lines' points points' directions directions' facets facets'

-- what is exact along no lines is exact
abbrev pub NoLines : (List ℚ → Type 0) → (List ℚ → Type 0) → Type 0
NoLines Set Directions = (n : ℕ) (c : List ℚ) (points directions : List (List ℚ))
    (facets : List Inequality) → IsExactAlong n Set Directions c [] points directions facets →
    IsExact n Set Directions c points directions facets

-- the set of the negatives has the same lines; the vertices and the extreme directions of its
-- reduced part are the negatives of those of the set's, and so are the members of hulls along these
-- lines
pub record OfNegativesAlong (n : ℕ) (Set Directions : List ℚ → Type 0)
    (lines : List (List ℚ)) : Type 0 where
  pub lines_are : AreLines n (Negatives Directions) lines ↔ AreLines n Directions lines
  pub vertices : (y : List ℚ) → IsVertex (IsReducedIn lines (Negatives Set)) y
      ↔ IsVertex (IsReducedIn lines Set) (negated y)
  pub extreme : (d : List ℚ) → IsExtremeDirection n (IsReducedIn lines (Negatives Directions)) d
      ↔ IsExtremeDirection n (IsReducedIn lines Directions) (negated d)
  pub hull : (points directions : List (List ℚ)) (y : List ℚ) →
      IsInHull n points directions lines y
      ↔ IsInHull n (map negated points) (map negated directions) lines (negated y)

-- so it is for every list of lines
abbrev pub NegativesAlong : (List ℚ → Type 0) → (List ℚ → Type 0) → Type 0
NegativesAlong Set Directions = (n : ℕ) (lines : List (List ℚ)) →
    OfNegativesAlong n Set Directions lines
