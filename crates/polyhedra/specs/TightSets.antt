-- Tight rows, and double description pairs: rows and the generators of their cone.
use Rattle.std.specs.Prelude.{ℕ, List, ◌≡◌, All, AllPairs}
use Rattle.exact_field.specs.Rational.{ℚ, zero_ℚ}
use Rattle.exact_field.specs.Vector.{dot}
use Rattle.polyhedra.specs.Vectors.{AreWide, zeros}
use Rattle.polyhedra.specs.Cone.{IsGenerated, IsInCone, HasFullRank}

-- the row is tight at z: its value there is 0
abbrev pub IsTight : List ℚ → List ℚ → Type 0
IsTight row z = dot row z ≡ zero_ℚ

-- the tight set of a lies in that of b: each row that is tight at a is tight at b
abbrev pub LiesIn : List (List ℚ) → List ℚ → List ℚ → Type 0
LiesIn rows a b = All (λ row. IsTight row a → IsTight row b) rows

-- g covers a and b: each row that is tight at both is tight at g
abbrev pub Covers : List (List ℚ) → List ℚ → List ℚ → List ℚ → Type 0
Covers rows a b g = All (λ row. IsTight row a → IsTight row b → IsTight row g) rows

-- neither tight set lies in the other
pub record AreApart (rows : List (List ℚ)) (a b : List ℚ) : Type 0 where
  pub first : LiesIn rows a b → ⊥
  pub second : LiesIn rows b a → ⊥

-- the rows and the generators are a double description pair (Fukuda and Prodon) without a generator too much: the rows have full
-- rank, so that their cone is pointed, the generators lie in it and generate it, none is 0, and no tight set lies in another's
pub record IsDoubleDescriptionPair (n : ℕ) (rows generators : List (List ℚ)) : Type 0 where
  pub rows_wide : AreWide n rows
  pub generators_wide : AreWide n generators
  pub pointed : HasFullRank n rows
  pub inside : All (IsInCone n rows) generators
  pub generates : (z : List ℚ) → IsInCone n rows z → IsGenerated n generators z
  pub not_zero : All (λ g. g ≡ zeros n → ⊥) generators
  pub apart : AllPairs (AreApart rows) generators
