-- Linear dependence, and rows that are positive at one of as many vectors each.
use Rattle.std.specs.Prelude.{ℕ, ◌<◌, List, [], ◌≡◌, ◌≢◌, length, All, slice_index_or}
use Rattle.exact_field.specs.Rational.{ℚ, zero_ℚ, ◌<ℚ◌}
use Rattle.exact_field.specs.Vector.{dot}
use Rattle.polyhedra.specs.Vectors.{AreWide, zeros, combination}
use Rattle.polyhedra.specs.Cone.{HasFullRank}
use Rattle.polyhedra.specs.TightSets.{IsDoubleDescriptionPair}

-- some combination of the vectors is 0, and its multipliers are not all 0
pub record AreDependent (n : ℕ) (vs : List (List ℚ)) : Type 0 where
  pub multipliers : List ℚ
  pub one_each : length multipliers ≡ length vs
  pub not_all_zero : All (λ m. m ≡ zero_ℚ) multipliers → ⊥
  pub balanced : combination n multipliers vs ≡ zeros n

-- more than n vectors of n entries are dependent
abbrev pub MoreAreDependent : Type 0
MoreAreDependent = (n : ℕ) (vs : List (List ℚ)) → AreWide n vs → n < length vs → AreDependent n vs

-- n rows and n vectors of n entries, where row i is positive at vector i and 0 at the others
pub record AreCorners (n : ℕ) (rows vectors : List (List ℚ)) : Type 0 where
  pub rows_wide : AreWide n rows
  pub vectors_wide : AreWide n vectors
  pub rows_many : length rows ≡ n
  pub vectors_many : length vectors ≡ n
  pub positive : (i : ℕ) → i < n → zero_ℚ <ℚ dot (slice_index_or rows i []) (slice_index_or vectors i [])
  pub zero_elsewhere : (i j : ℕ) → i < n → j < n → i ≢ j →
      dot (slice_index_or rows i []) (slice_index_or vectors j []) ≡ zero_ℚ

-- such rows have full rank
abbrev pub CornersDetermine : Type 0
CornersDetermine = (n : ℕ) (rows vectors : List (List ℚ)) → AreCorners n rows vectors → HasFullRank n rows

-- such rows and vectors are a double description pair
abbrev pub Start : Type 0
Start = (n : ℕ) (rows vectors : List (List ℚ)) → AreCorners n rows vectors → IsDoubleDescriptionPair n rows vectors
