-- Sparse vectors: the places of a vector, counted from 1, at which it may differ from 0, with its entries there.
use Rattle.std.specs.Prelude.{ℕ, zero, suc, ◌<◌, ◌≤◌, List, [], ◌∷◌, ◌≡◌, map, length, All, AllPairs, nat_eq, if◌then◌else◌}
use Rattle.exact_field.specs.Rational.{ℚ, zero_ℚ, ◌*ℚ◌}
use Rattle.exact_field.specs.Vector.{dot, entry, sum_ℚ}

-- a place, and the entry there
pub record Entry : Type 0 where
  pub place : ℕ
  pub value : ℚ

-- the places lie between 1 and n, and rise
pub record IsSparse (n : ℕ) (entries : List Entry) : Type 0 where
  pub from_one : All (λ e. 1 ≤ e.place) entries
  pub to_end : All (λ e. e.place ≤ n) entries
  pub rising : AllPairs (λ d e. d.place < e.place) entries

-- the entry at place k, and 0 where none is given
abbrev pub value_at : List Entry → ℕ → ℚ
value_at [] k = zero_ℚ
value_at (e ∷ entries) k = if nat_eq e.place k then e.value else value_at entries k

-- n values of a function, from k on
abbrev pub values_from : ℕ → ℕ → (ℕ → ℚ) → List ℚ
values_from zero k f = []
values_from (suc n) k f = f k ∷ values_from n (suc k) f

-- the vector of n entries
abbrev pub dense : ℕ → List Entry → List ℚ
dense n entries = values_from n 1 (value_at entries)

-- the product of a sparse vector with a vector takes the places that are given alone
abbrev pub ProductOfSparse : Type 0
ProductOfSparse = (n : ℕ) (entries : List Entry) (v : List ℚ) → IsSparse n entries → length v ≡ n →
    dot (dense n entries) v ≡ sum_ℚ (map (λ e. e.value *ℚ entry v e.place) entries)
