-- The directions of an associated image that do not lie in the slice: the unit vectors, or what is
-- left of them beside lines.
use Rattle.std.specs.Prelude.{ℕ, suc, ◌+◌, List, ◌≡◌, ◌⊎◌, length}
use Rattle.exact_field.specs.Rational.{ℚ, zero_ℚ}
use Rattle.exact_field.specs.Vector.{sum_ℚ}
use Rattle.polyhedra.specs.Vectors.{zeros, AtLeastZero}
use Rattle.polyhedra.specs.Hull.{IsMultiple, IsExtremeDirection}
use Rattle.polyhedra.specs.Image.{IsImage}
use Rattle.lineality.specs.Lines.{RunsAlong, IsReducedIn, reduction}
use Rattle.representations.specs.Lined.{unit_at}
use Rattle.representations.specs.Projection.{AreAssociated}

-- no entry is negative
pub record IsInOrthant (n : ℕ) (d : List ℚ) : Type 0 where
  pub wide : length d ≡ n
  pub at_least_zero : AtLeastZero d

-- what the reduction along the lines leaves of some unit vector is a multiple of d
pub record IsReducedUnit (n : ℕ) (lines : List (List ℚ)) (d : List ℚ) : Type 0 where
  pub before : ℕ
  pub after : ℕ
  pub places : before + suc after ≡ n
  pub multiple : IsMultiple d (reduction n lines (unit_at before after))

-- an extreme direction of the reduced part of such an image has entries that sum to 0, or is what
-- is left of a unit vector
abbrev pub DroppedAreUnits : Type 0
DroppedAreUnits = (n k : ℕ) (rows objectives : List (List ℚ)) → length objectives ≡ suc k →
    AreAssociated n k objectives → (lines : List (List ℚ)) →
    let Directions = IsImage n rows (zeros (length rows)) objectives (IsInOrthant (suc k)) in
    RunsAlong (suc k) Directions lines →
    (d : List ℚ) → IsExtremeDirection (suc k) (IsReducedIn lines Directions) d →
    (sum_ℚ d ≡ zero_ℚ) ⊎ IsReducedUnit (suc k) lines d
