-- A set of numbers below a bound: a list that says of each number below the bound whether the set has it.
use Rattle.std.specs.Prelude.{ℕ, ◌%◌, ◌≡◌, ◌≢◌, ◌<◌, ◌≤◌, nat_eq, List, Bool, true, false, not, Option, Some, None, IsTrue, ◌&&◌, ◌||◌, length, max, min, replicate, slice_index_or, count_by}

-- whether the set has the number
abbrev pub has : List Bool → ℕ → Bool
has marks k = slice_index_or marks k false

-- the empty set of numbers below a bound
abbrev pub no_marks : ℕ → List Bool
no_marks bound = replicate bound false

-- a set with this bound has room for one place more
abbrev pub HasRoom : ℕ → Type 0
HasRoom bound = bound % 64 ≢ 0

-- how many numbers the set has
abbrev pub size : List Bool → ℕ
size marks = count_by (λ marked. marked) marks

-- the set of all numbers below the bound but one
pub record IsAllBut (bound out : ℕ) (marks : List Bool) : Type 0 where
  pub bounded : length marks ≡ bound
  pub others : (k : ℕ) → k < bound → has marks k ≡ not (nat_eq k out)

-- the first set has each number of the second
abbrev pub ContainsAll : List Bool → List Bool → Type 0
ContainsAll marks other = (k : ℕ) → IsTrue (has other k) → IsTrue (has marks k)

-- the first set has each common number of the two others
abbrev pub CoversBoth : List Bool → List Bool → List Bool → Type 0
CoversBoth marks a b = (k : ℕ) → IsTrue (has a k) → IsTrue (has b k) → IsTrue (has marks k)

-- the first set has exactly the common numbers of the two others, and the lesser bound of theirs
pub record IsMeet (marks a b : List Bool) : Type 0 where
  pub bound : length marks ≡ min (length a) (length b)
  pub common : (k : ℕ) → has marks k ≡ (has a k && has b k)

-- the first set has exactly the numbers of the two others, and the greater bound of theirs
pub record IsUnion (marks a b : List Bool) : Type 0 where
  pub bound : length marks ≡ max (length a) (length b)
  pub either : (k : ℕ) → has marks k ≡ (has a k || has b k)

-- the least number of the set that is not less than k, or that there is none
abbrev pub IsNextFrom : List Bool → ℕ → Option ℕ → Type 0
IsNextFrom marks k (Some j) = (k ≤ j) × (j < length marks) × (has marks j ≡ true) × ((i : ℕ) → k ≤ i → i < j → has marks i ≡ false)
IsNextFrom marks k None = (i : ℕ) → k ≤ i → has marks i ≡ false
