-- Cones: given by generators, given by rows, the dual of a set, and its interior.
use Rattle.std.specs.Prelude.{ℕ, List, ◌≡◌, length, All}
use Rattle.exact_field.specs.Rational.{ℚ, zero_ℚ, ◌≤ℚ◌, ◌<ℚ◌}
use Rattle.exact_field.specs.Vector.{dot}
use Rattle.polyhedra.specs.Vectors.{zeros, combination, AtLeastZero}

-- z is a combination of the generators with multipliers of at least 0
pub record IsGenerated (n : ℕ) (generators : List (List ℚ)) (z : List ℚ) : Type 0 where
  pub multipliers : List ℚ
  pub one_each : length multipliers ≡ length generators
  pub at_least_zero : AtLeastZero multipliers
  pub combined : z ≡ combination n multipliers generators

-- z has n entries, and each row is at least 0 at z
pub record IsInCone (n : ℕ) (rows : List (List ℚ)) (z : List ℚ) : Type 0 where
  pub wide : length z ≡ n
  pub within : All (λ r. zero_ℚ ≤ℚ dot r z) rows

-- w has n entries, and a product of at least 0 with each member of the set
pub record IsInDual (n : ℕ) (Set : List ℚ → Type 0) (w : List ℚ) : Type 0 where
  pub wide : length w ≡ n
  pub within : (y : List ℚ) → Set y → zero_ℚ ≤ℚ dot w y

-- y is in the set, and has a positive product with each vector of its dual that is not 0
pub record IsInterior (n : ℕ) (Set : List ℚ → Type 0) (y : List ℚ) : Type 0 where
  pub member : Set y
  pub inside : (w : List ℚ) → IsInDual n Set w → (w ≡ zeros n → ⊥) → zero_ℚ <ℚ dot w y

-- the vectors have full rank: no vector of n entries but 0 has the product 0 with each of them; the cone of such rows is pointed
abbrev pub HasFullRank : ℕ → List (List ℚ) → Type 0
HasFullRank n vs = (z : List ℚ) → length z ≡ n → All (λ v. dot v z ≡ zero_ℚ) vs → z ≡ zeros n
