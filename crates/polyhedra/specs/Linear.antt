-- The laws of products and combinations.
use Rattle.std.specs.Prelude.{ℕ, List, ◌≡◌, map, length}
use Rattle.exact_field.specs.Rational.{ℚ, ◌+ℚ◌, ◌*ℚ◌}
use Rattle.exact_field.specs.Vector.{dot}
use Rattle.polyhedra.specs.Vectors.{AreWide, plus, scaled, values, combination}

-- the product of two vectors does not depend on their order
abbrev pub ProductIsSymmetric : Type 0
ProductIsSymmetric = (u v : List ℚ) → dot u v ≡ dot v u

-- the product with a sum is the sum of the products, and that with a multiple is the multiple of the product
pub record IsLinear : Type 0 where
  pub sum : (r u v : List ℚ) → dot r (plus u v) ≡ dot r u +ℚ dot r v
  pub multiple : (r : List ℚ) (c : ℚ) (v : List ℚ) → dot r (scaled c v) ≡ c *ℚ dot r v

-- the product with a combination is the combination of the products
abbrev pub ProductOfCombination : Type 0
ProductOfCombination = (n : ℕ) (ms : List ℚ) (vs : List (List ℚ)) (r : List ℚ) →
    dot (combination n ms vs) r ≡ dot ms (values vs r)

-- a combination of combinations of vs is the combination of vs with the combined multipliers
abbrev pub CombinationOfCombinations : Type 0
CombinationOfCombinations = (n : ℕ) (ls : List ℚ) (mss vs : List (List ℚ)) → AreWide n vs →
    combination n ls (map (λ ms. combination n ms vs) mss) ≡ combination n (combination (length vs) ls mss) vs

-- vectors of one width that have the same product with every vector are equal
abbrev pub SameProducts : Type 0
SameProducts = (u v : List ℚ) → length u ≡ length v → ((r : List ℚ) → dot r u ≡ dot r v) → u ≡ v
