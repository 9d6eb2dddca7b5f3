-- What a program by its columns stands for.
use Rattle.std.specs.Prelude.{ℕ, ◌+◌, ◌-◌, ◌≤◌, ◌≡◌, List, [], map, length, slice_index_or, All}
use Rattle.exact_field.specs.Rational.{ℚ}
use Rattle.tableaux.specs.Table.{Table, System, IsSystem, equation_count, unknown_count}
use Rattle.tableaux.specs.Optimum.{equations_at}
use Rattle.lin_rows.specs.declared.spots.Spot.{Spot}
use Rattle.program_columns.specs.Columns.{all_columns, filled}
use Rattle.program_columns.specs.declared.columns.Columns.{Columns}

-- the spots of column k
abbrev pub spots_at : {F : Type 0} → Columns F → ℕ → List (Spot F)
spots_at p k = slice_index_or (all_columns p.sides.now p.others p.units) (k - 1) []

-- its numbers, one for each equation
abbrev pub column_in : {F : Type 0} → (F → ℚ) → Columns F → ℕ → List ℚ
column_in value p k = filled value (length p.right) (spots_at p k)

-- those of some columns
abbrev pub vectors_in : {F : Type 0} → (F → ℚ) → Columns F → List ℕ → Table
vectors_in value p columns = map (column_in value p) columns

-- the columns, the right sides and the costs are those of the system
pub record IsProgramOf {F : Type 0} (value : F → ℚ) (s : System) (p : Columns F) : Type 0 where
  pub system : IsSystem s
  pub right : map value p.right ≡ s.right
  pub cost : map value p.cost ≡ s.cost
  pub columns : (k : ℕ) → 1 ≤ k → k ≤ unknown_count s + equation_count s →
      column_in value p k ≡ equations_at s k

-- as many columns as there are equations
pub record AreInRange {F : Type 0} (p : Columns F) (columns : List ℕ) : Type 0 where
  pub one_each : length columns ≡ length p.right
  pub from_one : All (λ c. 1 ≤ c) columns
  pub to_end : All (λ c. c ≤ length p.cost + length p.right) columns
