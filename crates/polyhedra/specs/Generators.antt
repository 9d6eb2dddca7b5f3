-- What holds of generators that describe a cone.
use Rattle.std.specs.Prelude.{ℕ, ◌+◌, ◌<◌, ◌≤◌, List, ◌≡◌, ◌↔◌, ◌⊎◌, length, filter, All, AllPairs, Contains, ◌&&◌, true, false}
use Rattle.exact_field.specs.Rational.{ℚ, zero_ℚ, ◌≤ℚ◌, ◌<ℚ◌}
use Rattle.exact_field.specs.Vector.{dot}
use Rattle.polyhedra.specs.Cone.{IsGenerated, IsInCone, IsInDual}
use Rattle.polyhedra.specs.TightSets.{IsTight, LiesIn, IsDoubleDescriptionPair}
use Rattle.polyhedra.specs.DoubleDescription.{is_zero, normed, meeting, IsNormed, Pair, is_uncovered}
use Rattle.polyhedra.specs.Hull.{IsExtremeDirection}

-- no generator is listed twice, and two with the same tight rows are one
pub record AreDistinct (rows generators : List (List ℚ)) : Type 0 where
  pub once : AllPairs (λ a b. a ≡ b → ⊥) generators
  pub by_tight_set : (a b : List ℚ) → Contains generators a → Contains generators b → LiesIn rows a b → a ≡ b

-- generators that describe a cone are distinct
abbrev pub DescribedAreDistinct : Type 0
DescribedAreDistinct = (n : ℕ) (rows generators : List (List ℚ)) → IsDoubleDescriptionPair n rows generators → AreDistinct rows generators

-- the new row is tight at the meeting point of p and m, normed, and a row in use where it is tight at both
pub record IsTightAtBoth (rows : List (List ℚ)) (row p m : List ℚ) : Type 0 where
  pub new_row : IsTight row (normed (meeting row p m))
  pub in_use : (r : List ℚ) → Contains rows r → IsTight r (normed (meeting row p m)) ↔ (IsTight r p × IsTight r m)

-- so it is of each two generators at which the new row is positive and negative
abbrev pub TightAtMeeting : Type 0
TightAtMeeting = (n : ℕ) (rows generators : List (List ℚ)) (row p m : List ℚ) → IsDoubleDescriptionPair n rows generators →
    Contains generators p → Contains generators m → zero_ℚ <ℚ dot row p → dot row m <ℚ zero_ℚ → IsTightAtBoth rows row p m

-- the rows that are tight at both
abbrev pub common_rows : List (List ℚ) → List ℚ → List ℚ → List (List ℚ)
common_rows rows a b = filter (λ row. is_zero (dot row a) && is_zero (dot row b)) rows

-- two different generators with fewer than n - 2 tight rows in common are covered by a third one: they are not adjacent
abbrev pub FewAreCovered : Type 0
FewAreCovered = (n : ℕ) (rows generators : List (List ℚ)) (pair : Pair) → IsDoubleDescriptionPair n rows generators →
    Contains generators pair.plus_side → Contains generators pair.minus_side → (pair.plus_side ≡ pair.minus_side → ⊥) →
    length (common_rows rows pair.plus_side pair.minus_side) + 2 < n → is_uncovered rows generators pair ≡ false

-- the rows that are tight at a
abbrev pub tight_rows : List (List ℚ) → List ℚ → List (List ℚ)
tight_rows rows a = filter (λ row. is_zero (dot row a)) rows

-- where at most one tight row of one of two generators is not tight at the other, no third one covers
-- them: they are adjacent
abbrev pub AllButOneAreUncovered : Type 0
AllButOneAreUncovered = (n : ℕ) (rows generators : List (List ℚ)) (pair : Pair) → IsDoubleDescriptionPair n rows generators →
    Contains generators pair.plus_side → Contains generators pair.minus_side →
    let common = length (common_rows rows pair.plus_side pair.minus_side) in
    (length (tight_rows rows pair.plus_side) ≤ common + 1) ⊎ (length (tight_rows rows pair.minus_side) ≤ common + 1) →
    is_uncovered rows generators pair ≡ true

-- normed generators that describe a cone are exactly its normed extreme directions
abbrev pub DescribedAreExtreme : Type 0
DescribedAreExtreme = (n : ℕ) (rows generators : List (List ℚ)) → IsDoubleDescriptionPair n rows generators → All IsNormed generators →
    (g : List ℚ) → Contains generators g ↔ (IsExtremeDirection n (IsInCone n rows) g × IsNormed g)

-- a vector of full width is in the dual of the cone of the rows exactly where its product with each generator is at least 0, and
-- exactly where the rows generate it
pub record IsDualAtGenerators (n : ℕ) (rows generators : List (List ℚ)) (w : List ℚ) : Type 0 where
  pub generated : All (λ g. zero_ℚ ≤ℚ dot w g) generators ↔ IsGenerated n rows w
  pub at_generators : IsInDual n (IsInCone n rows) w ↔ All (λ g. zero_ℚ ≤ℚ dot w g) generators
  pub dual : IsInDual n (IsInCone n rows) w ↔ IsGenerated n rows w

-- so it is where generators describe the cone of the rows
abbrev pub DualOfDescribed : Type 0
DualOfDescribed = (n : ℕ) (rows generators : List (List ℚ)) (w : List ℚ) → IsDoubleDescriptionPair n rows generators → length w ≡ n →
    IsDualAtGenerators n rows generators w
