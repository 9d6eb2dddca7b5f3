-- Farkas' lemma, that only one of its alternatives holds, and weak duality.
use Rattle.std.specs.Prelude.{ℕ, List, ◌≡◌, ◌⊎◌, length, All}
use Rattle.std.specs.List.{AllZip}
use Rattle.exact_field.specs.Rational.{ℚ, zero_ℚ, ◌≤ℚ◌, ◌<ℚ◌}
use Rattle.exact_field.specs.Vector.{dot}
use Rattle.polyhedra.specs.Vectors.{AreWide, zeros, plus, values, combination, AtLeastZero}
use Rattle.polyhedra.specs.Cone.{IsGenerated, IsInCone}

-- at some vector each row is at least 0 and b is below 0
pub record IsSeparated (n : ℕ) (rows : List (List ℚ)) (b : List ℚ) : Type 0 where
  pub vector : List ℚ
  pub in_cone : IsInCone n rows vector
  pub below : dot b vector <ℚ zero_ℚ

-- b is a combination of the rows with multipliers of at least 0, or some vector separates it from them
abbrev pub FarkasLemma : Type 0
FarkasLemma = (n : ℕ) (rows : List (List ℚ)) (b : List ℚ) → AreWide n rows → length b ≡ n →
    IsGenerated n rows b ⊎ IsSeparated n rows b

-- b is not both
abbrev pub OneAlternative : Type 0
OneAlternative = (n : ℕ) (rows : List (List ℚ)) (b : List ℚ) → IsGenerated n rows b → IsSeparated n rows b → ⊥

-- x meets each of the inequalities row . x ≥ right side, of which there are as many rows as right sides
abbrev pub Meets : List (List ℚ) → List ℚ → List ℚ → Type 0
Meets rows rights x = AllZip (λ r right. right ≤ℚ dot r x) rows rights

-- u has an entry of at least 0 for each row, and the rows times u sum to w
pub record IsDualVector (n : ℕ) (rows : List (List ℚ)) (w u : List ℚ) : Type 0 where
  pub one_each : length u ≡ length rows
  pub at_least_zero : AtLeastZero u
  pub balanced : combination n u rows ≡ w

-- where x meets rows . x ≥ right sides, a dual vector u of w bounds w . x from below by u's product with the right sides
abbrev pub WeakDuality : Type 0
WeakDuality = (n : ℕ) (rows : List (List ℚ)) (rights w u x : List ℚ) → IsDualVector n rows w u → Meets rows rights x →
    dot rights u ≤ℚ dot w x

-- a dual vector of 0 with a positive product with the right sides shows that no x meets the inequalities
abbrev pub NoSolution : Type 0
NoSolution = (n : ℕ) (rows : List (List ℚ)) (rights u : List ℚ) → IsDualVector n rows (zeros n) u →
    zero_ℚ <ℚ dot rights u → (x : List ℚ) → Meets rows rights x → ⊥

-- a row whose product with each generator is at least 0 has a product of at least 0 with each member of their cone
abbrev pub DualOfGenerated : Type 0
DualOfGenerated = (n : ℕ) (generators : List (List ℚ)) (w z : List ℚ) → All (λ g. zero_ℚ ≤ℚ dot w g) generators →
    IsGenerated n generators z → zero_ℚ ≤ℚ dot w z

-- a dual vector of the objectives weighed by w bounds w . y from below for each y that is the objectives' value at a solution x and
-- a vector with a product with w of at least 0
abbrev pub CutHolds : Type 0
CutHolds = (n : ℕ) (rows : List (List ℚ)) (rights : List ℚ) (objectives : List (List ℚ)) (w u x y d : List ℚ) →
    IsDualVector n rows (combination n w objectives) u → Meets rows rights x → y ≡ plus (values objectives x) d →
    zero_ℚ ≤ℚ dot w d → dot rights u ≤ℚ dot w y
