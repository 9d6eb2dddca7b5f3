-- A face of a hull: where a linear function that is bounded from below takes its bound.
use Rattle.std.specs.Prelude.{ℕ, List, ◌≡◌, ◌↔◌, filter, All}
use Rattle.exact_field.specs.Rational.{ℚ, zero_ℚ, ◌≤ℚ◌}
use Rattle.exact_field.specs.Order.{same_ℚ}
use Rattle.exact_field.specs.Vector.{dot}
use Rattle.polyhedra.specs.Vectors.{AreWide}
use Rattle.polyhedra.specs.Hull.{IsInHull}

-- the vectors at which the product with f is b
abbrev pub at_value : List ℚ → ℚ → List (List ℚ) → List (List ℚ)
at_value f b vs = filter (λ v. same_ℚ (dot f v) b) vs

-- the product with f is at least b at the points, at least 0 at the directions, and 0 at the lines
pub record IsBoundedBelow (f : List ℚ) (b : ℚ)
    (points directions lines : List (List ℚ)) : Type 0 where
  pub at_points : All (λ p. b ≤ℚ dot f p) points
  pub at_directions : All (λ d. zero_ℚ ≤ℚ dot f d) directions
  pub at_lines : All (λ l. dot f l ≡ zero_ℚ) lines

-- the members of the hull at which it is b are the hull of the points at which it is b, the
-- directions at which it is 0, and the lines
abbrev pub FaceOfHull : Type 0
FaceOfHull = (n : ℕ) (points directions lines : List (List ℚ)) (f : List ℚ) (b : ℚ) →
    AreWide n points → AreWide n directions → AreWide n lines →
    IsBoundedBelow f b points directions lines → (y : List ℚ) →
    (IsInHull n points directions lines y × (dot f y ≡ b))
    ↔ IsInHull n (at_value f b points) (at_value f zero_ℚ directions) lines y
