-- Rows of whole numbers, and how many generators their cone has.
use Rattle.std.specs.Prelude.{ℕ, zero, suc, ℤ, List, [], ◌∷◌, ◌≡◌, map, take, drop, length}
use Rattle.exact_field.specs.Rational.{ℚ, whole}
use Rattle.polyhedra.specs.LiveList.{LiveList}
use Rattle.polyhedra.specs.LiveSteps.{IsLive}

-- so many rows of this width, one after the other
abbrev pub rows_of : ℕ → ℕ → List ℤ → List (List ℚ)
rows_of zero width entries = []
rows_of (suc count) width entries = map whole (take width entries) ∷ rows_of count width (drop width entries)

-- the cone of the rows has so many generators
pub record IsCount (width : ℕ) (rows : List (List ℚ)) (count : ℕ) : Type 0 where
  pub list : LiveList
  pub live : IsLive width rows list
  pub counted : count ≡ length list.live
