-- Driving artificial columns out of a basis.
use Rattle.std.specs.Prelude.{ℕ, ◌≤◌, ◌<◌, ◌≡◌, ◌≢◌, List, Option, None, Some}
use Rattle.exact_field.specs.Rational.{zero_ℚ}
use Rattle.polyhedra.specs.Sparse.{Entry}
use Rattle.tableaux.specs.Table.{System, at, unknown_count}
use Rattle.tableaux.specs.Dictionary.{basic_column}
use Rattle.lin_rows.specs.Lines.{sum_at}
use Rattle.lin_rows.specs.Tableau.{Dictionary}

-- a sparse row is 0 at the columns from 1 to n, or not 0 at this one
abbrev pub IsSupport : List Entry → ℕ → Option ℕ → Type 0
IsSupport es n None = (j : ℕ) → 1 ≤ j → j ≤ n → sum_at es j ≡ zero_ℚ
IsSupport es n (Some c) = (1 ≤ c) × (c ≤ n) × (sum_at es c ≢ zero_ℚ)

-- of the first k equations those with an artificial column are 0 at all unknowns
abbrev pub IsIdleTo : System → ℕ → Dictionary → Type 0
IsIdleTo s k t = (i j : ℕ) → 1 ≤ i → i ≤ k → unknown_count s < basic_column t.basis i → 1 ≤ j → j ≤ unknown_count s → at t.table i j ≡ zero_ℚ
