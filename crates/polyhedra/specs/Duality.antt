-- The dual of a cone, and its interior, by generators and by rows.
use Rattle.std.specs.Prelude.{ℕ, List, ◌≡◌, ◌↔◌, ◌⊎◌, length, All}
use Rattle.exact_field.specs.Rational.{ℚ, zero_ℚ, ◌<ℚ◌}
use Rattle.exact_field.specs.Vector.{dot}
use Rattle.polyhedra.specs.Vectors.{AreWide, zeros, combination}
use Rattle.polyhedra.specs.Cone.{IsGenerated, IsInCone, IsInDual, IsInterior, HasFullRank}

-- the dual of the cone that vectors generate is the cone of these vectors as rows, and the other way round
pub record DualCones : Type 0 where
  pub of_generated : (n : ℕ) (vs : List (List ℚ)) (w : List ℚ) → AreWide n vs →
      IsInDual n (IsGenerated n vs) w ↔ IsInCone n vs w
  pub of_rows : (n : ℕ) (vs : List (List ℚ)) (w : List ℚ) → AreWide n vs →
      IsInDual n (IsInCone n vs) w ↔ IsGenerated n vs w

-- a combination of generators with positive multipliers is interior to their cone, where they have full rank
abbrev pub InteriorOfGenerated : Type 0
InteriorOfGenerated = (n : ℕ) (generators : List (List ℚ)) (ms : List ℚ) → AreWide n generators → HasFullRank n generators →
    length ms ≡ length generators → All (λ m. zero_ℚ <ℚ m) ms →
    IsInterior n (IsGenerated n generators) (combination n ms generators)

-- a vector at which each row is positive or has no entry but 0 is interior to the cone of the rows
abbrev pub InteriorOfRows : Type 0
InteriorOfRows = (n : ℕ) (rows : List (List ℚ)) (y : List ℚ) → AreWide n rows → length y ≡ n →
    All (λ r. (zero_ℚ <ℚ dot r y) ⊎ (r ≡ zeros n)) rows → IsInterior n (IsInCone n rows) y
