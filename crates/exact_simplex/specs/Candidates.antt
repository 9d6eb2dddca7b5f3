-- The columns that may enter.
use Rattle.std.specs.Prelude.{ℕ, ◌≤◌, ◌≡◌, ◌⊎◌, List, Option, None, Some}
use Rattle.exact_field.specs.Rational.{zero_ℚ, ◌≤ℚ◌, ◌<ℚ◌}
use Rattle.polyhedra.specs.Sparse.{Entry}
use Rattle.lin_rows.specs.Lines.{sum_at}
use Rattle.exact_simplex.specs.declared.ratio.Candidate.{Candidate}

-- it is this column, or that of the best so far
abbrev pub IsBetterColumn : ℕ → Option Candidate → Candidate → Type 0
IsBetterColumn col None result = result.col ≡ col
IsBetterColumn col (Some best) result = (result.col ≡ col) ⊎ (result.col ≡ best.col)

-- the entries at the columns from 1 to n are at least 0, or that at this column is negative
abbrev pub IsEnteringCandidate : List Entry → ℕ → Option Candidate → Type 0
IsEnteringCandidate es n None = (j : ℕ) → 1 ≤ j → j ≤ n → zero_ℚ ≤ℚ sum_at es j
IsEnteringCandidate es n (Some best) = (1 ≤ best.col) × (best.col ≤ n) × (sum_at es best.col <ℚ zero_ℚ)
