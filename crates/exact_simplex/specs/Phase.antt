-- What a phase of the simplex method starts from, what it keeps, and how it ends.
use Rattle.std.specs.Prelude.{ℕ, ◌+◌, ◌<◌, ◌≤◌, ◌≡◌, ◌≢◌, ◌⊎◌, All, Bool, List, [], ◌∷◌, length, slice_index_or, Option, None, Some}
use Rattle.exact_field.specs.Rational.{ℚ, zero_ℚ, ◌≤ℚ◌, ◌<ℚ◌}
use Rattle.polyhedra.specs.Vectors.{AreWide}
use Rattle.tableaux.specs.Table.{Table, row_of, at}
use Rattle.tableaux.specs.Dictionary.{basic_column, IsDictionary}
use Rattle.tableaux.specs.Lex.{IsLexPositive, entries_at}
use Rattle.lin_rows.specs.Pivot.{IsPivotStep}
use Rattle.lin_rows.specs.Tableau.{Dictionary}
use Rattle.lin_rows.specs.declared.fault.RowFault.{RowFault}
use Rattle.lin_rows.specs.declared.fault.RowFault.TheVariants.{Left, NoMemory}

-- the columns stand in a table of this width
abbrev pub AreColumns : ℕ → List ℕ → Type 0
AreColumns n [] = Unit {0}
AreColumns n (c ∷ columns) = (1 ≤ c) × (c ≤ n) × AreColumns n columns

-- exactly the first rows, the equations, have a column
pub record IsEquationBasis (n equations : ℕ) (basis : List ℕ) : Type 0 where
  pub full : (i : ℕ) → i < equations → basic_column basis (i + 1) ≢ 0
  pub only : (i : ℕ) → equations < i → basic_column basis i ≡ 0
  pub high : All (λ c. c ≤ n) basis

-- the rows of the equations, read at these columns, are lexicographically positive
abbrev pub ArePositive : ℕ → List ℕ → Table → Type 0
ArePositive equations columns d = (i : ℕ) → i < equations → IsLexPositive (entries_at columns (row_of d (i + 1)))

-- a phase starts with a table that is its own dictionary at a basis whose columns are among those that are compared
pub record IsStart (equations : ℕ) (columns : List ℕ) (start : Dictionary) : Type 0 where
  pub own : IsDictionary start.width start.table start.basis start.table
  pub inside : equations ≤ length start.table
  pub full : IsEquationBasis start.width equations start.basis
  pub placed : AreColumns start.width columns
  pub compared : (k : ℕ) → 1 ≤ k → k ≤ equations → (j : ℕ) × (j < length columns) × (slice_index_or columns j 0 ≡ basic_column start.basis k)

-- the table is that of a dictionary wherever the start is
abbrev pub StaysDictionary : ℕ → Table → List ℕ → Table → List ℕ → Type 0
StaysDictionary n start first d basis = (t : Table) → AreWide n t → IsDictionary n t first start → IsDictionary n t basis d

-- what a phase keeps
pub record IsTurn (equations : ℕ) (columns : List ℕ) (start now : Dictionary) : Type 0 where
  pub width : now.width ≡ start.width
  pub one_each : length now.basis ≡ length now.table
  pub dictionary : StaysDictionary start.width start.table start.basis now.table now.basis
  pub full : IsEquationBasis start.width equations now.basis
  pub positive : ArePositive equations columns now.table

-- no unknown betters the cost row, or this one does so without limit
abbrev pub IsPhaseEnd : ℕ → ℕ → ℕ → Table → Option ℕ → Type 0
IsPhaseEnd equations cost unknowns d None = (j : ℕ) → 1 ≤ j → j ≤ unknowns → zero_ℚ ≤ℚ at d (cost + 1) j
IsPhaseEnd equations cost unknowns d (Some c) =
    (1 ≤ c) × (c ≤ unknowns) × (at d (cost + 1) c <ℚ zero_ℚ) × ((i : ℕ) → i < equations → at d (i + 1) c ≤ℚ zero_ℚ)

-- only unknowns have come in
abbrev pub AreEntered : ℕ → List ℕ → List ℕ → Type 0
AreEntered unknowns first basis = (i : ℕ) → 1 ≤ i → (basic_column basis i ≡ basic_column first i) ⊎ (basic_column basis i ≤ unknowns)

-- .. and equations that were 0 at all unknowns are as they were
pub record IsMoved (equations unknowns : ℕ) (start now : Dictionary) : Type 0 where
  pub entered : AreEntered unknowns start.basis now.basis
  pub rows : (i : ℕ) → i < equations → ((j : ℕ) → 1 ≤ j → j ≤ unknowns → at start.table (i + 1) j ≡ zero_ℚ) → row_of now.table (i + 1) ≡ row_of start.table (i + 1)

-- what is given up is a step of a pivot at an equation, in a dictionary that the phase has come to
abbrev pub IsPhaseFault : {F : Type 0} → (F → ℚ) → (ℚ → Bool) → ℕ → ℕ → Dictionary → RowFault F → Type 0
IsPhaseFault value holds equations unknowns start (Left basis row col step left) =
    (d : Table) × StaysDictionary start.width start.table start.basis d basis × IsEquationBasis start.width equations basis × AreEntered unknowns start.basis basis
    × (1 ≤ row) × (row ≤ equations) × (1 ≤ col) × (col ≤ unknowns) × IsPivotStep value holds start.width d row col step left
IsPhaseFault value holds equations unknowns start NoMemory = Unit {0}
