-- Small examples, each of which would fail if a definition were wrong.
use Rattle.std.specs.Prelude.{pos, negsuc, List, [], ◌∷◌, ◌≡◌, length, true, false}
use Rattle.exact_field.specs.Rational.{ℚ, zero_ℚ, one_ℚ, ◌≤ℚ◌}
use Rattle.exact_field.specs.Vector.{dot}
use Rattle.polyhedra.specs.Examples.{wholes}
use Rattle.polyhedra.specs.Exactness.{homogenised}
use Rattle.polyhedra.specs.Hull.{IsVertex}
use Rattle.polyhedra.specs.Inequality.{Inequality}
use Rattle.lineality.specs.Exactness.{IsSolvedAlong}
use Rattle.lineality.specs.Lines.{AreEchelon, RunsAlong, AreLines, IsReduced, IsReducedIn, reduction}
use Rattle.lineality.specs.Without.{marks, open_count, without, with_zeros}

-- two vectors in space, in reduced echelon form
abbrev pub first_line : List ℚ
first_line = wholes (pos 1 ∷ pos 0 ∷ pos 2 ∷ [])

abbrev pub second_line : List ℚ
second_line = wholes (pos 0 ∷ pos 1 ∷ negsuc 0 ∷ [])

abbrev pub two_lines : List (List ℚ)
two_lines = first_line ∷ second_line ∷ []

-- (1, 0, 2) and (0, 1, -1) are in reduced echelon form. The same plane is spanned by (1, 1, 1) and
-- (0, 1, -1), of which the first is not 0 at the place of the second, by the two in the other
-- order, and the same line by (2, 0, 4), which does not begin with 1
pub record FormExample : Type 0 where
  pub form : AreEchelon 3 two_lines
  pub not_apart : AreEchelon 3 (wholes (pos 1 ∷ pos 1 ∷ pos 1 ∷ []) ∷ second_line ∷ []) → ⊥
  pub not_rising : AreEchelon 3 (second_line ∷ first_line ∷ []) → ⊥
  pub not_one : AreEchelon 3 (wholes (pos 2 ∷ pos 0 ∷ pos 4 ∷ []) ∷ []) → ⊥
  pub reduced : IsReduced two_lines (wholes (pos 0 ∷ pos 0 ∷ pos 5 ∷ []))
  pub not_reduced : IsReduced two_lines (wholes (pos 0 ∷ pos 1 ∷ pos 0 ∷ [])) → ⊥
  pub reduces : reduction 3 two_lines (wholes (pos 3 ∷ pos 4 ∷ pos 5 ∷ []))
      ≡ wholes (pos 0 ∷ pos 0 ∷ pos 3 ∷ [])
  pub places : marks 3 two_lines ≡ true ∷ true ∷ false ∷ []
  pub one_open : open_count (marks 3 two_lines) ≡ 1
  pub shorter : without (marks 3 two_lines) (wholes (pos 3 ∷ pos 4 ∷ pos 5 ∷ pos 1 ∷ []))
      ≡ wholes (pos 5 ∷ pos 1 ∷ [])
  pub longer : with_zeros (marks 3 two_lines) (wholes (pos 5 ∷ pos 1 ∷ []))
      ≡ wholes (pos 0 ∷ pos 0 ∷ pos 5 ∷ pos 1 ∷ [])

-- (x, y) with x + y of at least 0
pub record IsInHalfPlane (v : List ℚ) : Type 0 where
  pub wide : length v ≡ 2
  pub above : zero_ℚ ≤ℚ dot (one_ℚ ∷ one_ℚ ∷ []) v

-- its side, its line, and of its reduced part the corner and the direction
abbrev pub side : Inequality
side = record { normal = one_ℚ ∷ one_ℚ ∷ []; bound = zero_ℚ }

abbrev pub border : List ℚ
border = wholes (pos 1 ∷ negsuc 0 ∷ [])

abbrev pub corner : List ℚ
corner = zero_ℚ ∷ zero_ℚ ∷ []

abbrev pub upward : List ℚ
upward = zero_ℚ ∷ one_ℚ ∷ []

-- the half plane has the line (1, -1), it runs not along (1, 0), and it is not without lines; 0 is
-- a vertex of its reduced part, but none of the half plane; and its side, the corner, the direction
-- and the line meet the conditions of exactness
pub record HalfPlaneExample : Type 0 where
  pub line : AreLines 2 IsInHalfPlane (border ∷ [])
  pub not_along : RunsAlong 2 IsInHalfPlane ((one_ℚ ∷ zero_ℚ ∷ []) ∷ []) → ⊥
  pub not_without : AreLines 2 IsInHalfPlane [] → ⊥
  pub vertex : IsVertex (IsReducedIn (border ∷ []) IsInHalfPlane) corner
  pub no_vertex : IsVertex IsInHalfPlane corner → ⊥
  pub solved : IsSolvedAlong 2 IsInHalfPlane IsInHalfPlane (one_ℚ ∷ zero_ℚ ∷ []) (border ∷ [])
      (side ∷ []) (homogenised corner one_ℚ ∷ homogenised upward zero_ℚ ∷ []) (corner ∷ [])
      (upward ∷ []) (side ∷ [])
