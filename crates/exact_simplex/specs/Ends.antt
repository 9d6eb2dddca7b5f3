-- What the solution of a linear program answers: ends, by equations and signs and as they are read off a dictionary, and overflows.
use Rattle.std.specs.Prelude.{ℕ, ◌≡◌, ◌≤◌, ◌<◌, ◌⊎◌, Bool, List, map}
use Rattle.exact_field.specs.Field.{IsLeftOf}
use Rattle.exact_field.specs.Rational.{ℚ, one_ℚ}
use Rattle.exact_field.specs.declared.op.Op.TheVariants.{Sub}
use Rattle.exact_field.specs.declared.op.Left.{Left as Operation}
use Rattle.tableaux.specs.Table.{Table, System, at, equation_count, right_column, artificial_column, first_cost}
use Rattle.tableaux.specs.Dictionary.{IsDictionaryOf}
use Rattle.tableaux.specs.Simplex.{IsOptimal, IsInfeasible, IsUnbounded, OptimalAt, InfeasibleAt, UnboundedAt}
use Rattle.lin_rows.specs.Pivot.{IsPivotStep}
use Rattle.lin_rows.specs.declared.fault.RowFault.{RowFault}
use Rattle.lin_rows.specs.declared.fault.RowFault.TheVariants.{Left as RowLeft, NoMemory as RowWant}
use Rattle.exact_simplex.specs.declared.answer.LpEnd.{LpEnd}
use Rattle.exact_simplex.specs.declared.answer.LpEnd.TheVariants.{Optimal, Infeasible, Unbounded}
use Rattle.exact_simplex.specs.declared.answer.LpFault.{LpFault}
use Rattle.exact_simplex.specs.declared.answer.LpFault.TheVariants.{Left, NoMemory}

-- the equations and signs of an end
abbrev pub IsCertified : {F : Type 0} → (F → ℚ) → System → LpEnd F → Type 0
IsCertified value s (Optimal x dual basis) = IsOptimal s (map value x) (map value dual)
IsCertified value s (Infeasible farkas basis) = IsInfeasible s (map value farkas)
IsCertified value s (Unbounded x ray basis) = IsUnbounded s (map value x) (map value ray)

-- the vectors of an end are read off the dictionary at its basis
abbrev pub IsReadOff : {F : Type 0} → (F → ℚ) → System → LpEnd F → Type 0
IsReadOff value s (Optimal x dual basis) = (d : Table) × OptimalAt s basis d (map value x) (map value dual)
IsReadOff value s (Infeasible farkas basis) = (d : Table) × InfeasibleAt s basis d (map value farkas)
IsReadOff value s (Unbounded x ray basis) = (d : Table) × (col : ℕ) × UnboundedAt s basis d col (map value x) (map value ray)

-- the basis of an end
abbrev pub basis_of : {F : Type 0} → LpEnd F → List ℕ
basis_of (Optimal x dual basis) = basis
basis_of (Infeasible farkas basis) = basis
basis_of (Unbounded x ray basis) = basis

-- a step of the pivot at this place of a dictionary of the system, or the difference of 1 and an artificial entry of the first cost
-- row, is not held
abbrev pub IsSystemStep : {F : Type 0} → (F → ℚ) → (ℚ → Bool) → System → Table → ℕ → ℕ → ℕ → Operation F → Type 0
IsSystemStep value holds s d row col step left =
    ((1 ≤ row) × (row ≤ equation_count s) × (1 ≤ col) × (col < right_column s) × IsPivotStep value holds (right_column s) d row col step left)
    ⊎ ((i : ℕ) × (1 ≤ i) × (i ≤ equation_count s) × (row ≡ first_cost s) × (col ≡ artificial_column s i)
    × (step ≡ 3) × IsLeftOf value holds Sub (at d row col) one_ℚ left)

-- .. in the dictionary at this basis
abbrev pub IsSystemLeft : {F : Type 0} → (F → ℚ) → (ℚ → Bool) → System → List ℕ → ℕ → ℕ → ℕ → Operation F → Type 0
IsSystemLeft value holds s basis row col step left = (d : Table) × IsDictionaryOf s basis d × IsSystemStep value holds s d row col step left

-- the same of what an elimination was given up for
abbrev pub IsSystemFault : {F : Type 0} → (F → ℚ) → (ℚ → Bool) → System → RowFault F → Type 0
IsSystemFault value holds s (RowLeft basis row col step left) = IsSystemLeft value holds s basis row col step left
IsSystemFault value holds s RowWant = Unit {0}

-- .. and of what the solution was given up for
abbrev pub IsLpFault : {F : Type 0} → (F → ℚ) → (ℚ → Bool) → System → LpFault F → Type 0
IsLpFault value holds s (Left basis row col step left) = IsSystemLeft value holds s basis row col step left
IsLpFault value holds s NoMemory = Unit {0}
