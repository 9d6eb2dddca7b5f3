-- Small examples, each of which would fail if a definition were wrong.
use Rattle.std.specs.Prelude.{ℤ, pos, negsuc, List, [], ◌∷◌, ◌≡◌, map, length}
use Rattle.exact_field.specs.Rational.{ℚ, whole, fraction, zero_ℚ, one_ℚ, ◌≤ℚ◌}
use Rattle.exact_field.specs.Vector.{entry}
use Rattle.polyhedra.specs.Dependence.{AreCorners}
use Rattle.polyhedra.specs.DoubleDescription.{new_pairs, addition}
use Rattle.polyhedra.specs.Inequality.{Inequality}
use Rattle.polyhedra.specs.Hull.{IsVertex, IsFacet, IsExtremeDirection}
use Rattle.polyhedra.specs.Cone.{IsGenerated, IsInterior}
use Rattle.polyhedra.specs.FirstNamed.{named_first}
use Rattle.polyhedra.specs.Exactness.{homogenised, level, IsSolved}

-- a vector of whole numbers
abbrev pub wholes : List ℤ → List ℚ
wholes ns = map whole ns

-- three rows, and three vectors at which one of them is positive and the others 0
abbrev pub three_rows : List (List ℚ)
three_rows = wholes (pos 0 ∷ pos 0 ∷ pos 1 ∷ []) ∷ (fraction (pos 1) 2 ∷ fraction (pos 1) 2 ∷ whole (pos 0) ∷ []) ∷ wholes (pos 0 ∷ pos 1 ∷ negsuc 3 ∷ []) ∷ []

abbrev pub three_vectors : List (List ℚ)
three_vectors = wholes (negsuc 3 ∷ pos 4 ∷ pos 1 ∷ []) ∷ wholes (pos 1 ∷ pos 0 ∷ pos 0 ∷ []) ∷ wholes (negsuc 0 ∷ pos 1 ∷ pos 0 ∷ []) ∷ []

-- a row that is negative at the first of them and positive at the others
abbrev pub fourth_row : List ℚ
fourth_row = fraction (pos 1) 4 ∷ fraction (pos 3) 4 ∷ whole (negsuc 2) ∷ []

-- the three vectors are a start; the row pairs the second and the third with the first; the second and the third stay, and the
-- meeting points are (0, 4, 1) and (-6, 6, 1)
pub record AdditionExample : Type 0 where
  pub start : AreCorners 3 three_rows three_vectors
  pub pairs : new_pairs three_rows three_vectors fourth_row
      ≡ record { plus_side = wholes (pos 1 ∷ pos 0 ∷ pos 0 ∷ []); minus_side = wholes (negsuc 3 ∷ pos 4 ∷ pos 1 ∷ []) }
      ∷ record { plus_side = wholes (negsuc 0 ∷ pos 1 ∷ pos 0 ∷ []); minus_side = wholes (negsuc 3 ∷ pos 4 ∷ pos 1 ∷ []) } ∷ []
  pub generators : addition three_rows three_vectors fourth_row
      ≡ wholes (pos 1 ∷ pos 0 ∷ pos 0 ∷ []) ∷ wholes (negsuc 0 ∷ pos 1 ∷ pos 0 ∷ [])
      ∷ wholes (pos 0 ∷ pos 4 ∷ pos 1 ∷ []) ∷ wholes (negsuc 5 ∷ pos 6 ∷ pos 1 ∷ []) ∷ []

-- half of 1
abbrev pub half : ℚ
half = fraction (pos 1) 2

-- (x, y) with x and y from 0 to 1
pub record IsInSquare (v : List ℚ) : Type 0 where
  pub wide : length v ≡ 2
  pub left : zero_ℚ ≤ℚ entry v 1
  pub right : entry v 1 ≤ℚ one_ℚ
  pub below : zero_ℚ ≤ℚ entry v 2
  pub above : entry v 2 ≤ℚ one_ℚ

-- the inequality x ≥ 0, and (x + y) / 2 ≥ 0, which meets the square at its corner 0 alone
abbrev pub left_side : Inequality
left_side = record { normal = one_ℚ ∷ zero_ℚ ∷ []; bound = zero_ℚ }

abbrev pub corner_line : Inequality
corner_line = record { normal = half ∷ half ∷ []; bound = zero_ℚ }

-- the corner 0 of the square is a vertex, and its centre is none; its left side is a facet, and the line at the corner is none
pub record SquareExample : Type 0 where
  pub corner : IsVertex IsInSquare (zero_ℚ ∷ zero_ℚ ∷ [])
  pub centre : IsVertex IsInSquare (half ∷ half ∷ []) → ⊥
  pub side : IsFacet 2 IsInSquare (one_ℚ ∷ one_ℚ ∷ []) left_side
  pub line : IsFacet 2 IsInSquare (one_ℚ ∷ one_ℚ ∷ []) corner_line → ⊥

-- (x, y) with x and y of at least 0
pub record IsInQuadrant (v : List ℚ) : Type 0 where
  pub wide : length v ≡ 2
  pub left : zero_ℚ ≤ℚ entry v 1
  pub below : zero_ℚ ≤ℚ entry v 2

-- the inequality y ≥ 0
abbrev pub lower_side : Inequality
lower_side = record { normal = zero_ℚ ∷ one_ℚ ∷ []; bound = zero_ℚ }

-- the two axes
abbrev pub axes : List (List ℚ)
axes = (one_ℚ ∷ zero_ℚ ∷ []) ∷ (zero_ℚ ∷ one_ℚ ∷ []) ∷ []

-- the quadrant is the cone of the axes; an axis is an extreme direction and the diagonal is none; the diagonal is interior, and
-- an axis is not; and its two sides, the point 0 and the axes meet the conditions of exactness
pub record QuadrantExample : Type 0 where
  pub generated : (v : List ℚ) → IsInQuadrant v → IsGenerated 2 axes v
  pub generates : (v : List ℚ) → IsGenerated 2 axes v → IsInQuadrant v
  pub axis : IsExtremeDirection 2 IsInQuadrant (one_ℚ ∷ zero_ℚ ∷ [])
  pub diagonal : IsExtremeDirection 2 IsInQuadrant (one_ℚ ∷ one_ℚ ∷ []) → ⊥
  pub interior : IsInterior 2 IsInQuadrant (one_ℚ ∷ one_ℚ ∷ [])
  pub border : IsInterior 2 IsInQuadrant (one_ℚ ∷ zero_ℚ ∷ []) → ⊥
  pub solved : IsSolved 2 IsInQuadrant IsInQuadrant (one_ℚ ∷ one_ℚ ∷ []) (left_side ∷ lower_side ∷ [])
      (level 2 ∷ homogenised (one_ℚ ∷ zero_ℚ ∷ []) zero_ℚ ∷ homogenised (zero_ℚ ∷ one_ℚ ∷ []) zero_ℚ ∷ [])
      ((zero_ℚ ∷ zero_ℚ ∷ []) ∷ []) axes (left_side ∷ lower_side ∷ [])

-- of a line at the corner of the quadrant, its left and lower side and the left side again, the left and the lower side are the
-- first with the largest tight sets
abbrev pub FirstExample : Type 0
FirstExample = named_first 2 (corner_line ∷ left_side ∷ lower_side ∷ left_side ∷ [])
    (level 2 ∷ homogenised (one_ℚ ∷ zero_ℚ ∷ []) zero_ℚ ∷ homogenised (zero_ℚ ∷ one_ℚ ∷ []) zero_ℚ ∷ []) ≡ left_side ∷ lower_side ∷ []
