-- The tableaux that the solution of a linear program goes through.
use Rattle.std.specs.Prelude.{ℕ, ◌≡◌, ◌≤◌, length}
use Rattle.exact_field.specs.Rational.{zero_ℚ, ◌≤ℚ◌}
use Rattle.tableaux.specs.Table.{System, at, table_of, equation_count, right_column}
use Rattle.tableaux.specs.Dictionary.{basic_column, IsDictionaryOf, IsFull}
use Rattle.tableaux.specs.Phases.{AreIdle}
use Rattle.tableaux.specs.Simplex.{IsFeasibleAt}
use Rattle.lin_rows.specs.Tableau.{Dictionary}

-- a tableau of the dictionary of a system at its basis
pub record IsTableauOf (s : System) (t : Dictionary) : Type 0 where
  pub width : t.width ≡ right_column s
  pub one_each : length t.basis ≡ length t.table
  pub dictionary : IsDictionaryOf s t.basis t.table

-- the table of the system itself, where no row has a column yet
pub record IsUnopened (s : System) (t : Dictionary) : Type 0 where
  pub held : IsTableauOf s t
  pub table : t.table ≡ table_of s
  pub empty : (i : ℕ) → basic_column t.basis i ≡ 0

-- each equation has a column, and no right side is negative
pub record IsPrimal (s : System) (t : Dictionary) : Type 0 where
  pub held : IsTableauOf s t
  pub full : IsFull s t.basis
  pub right : (i : ℕ) → 1 ≤ i → i ≤ equation_count s → zero_ℚ ≤ℚ at t.table i (right_column s)

-- .. and the artificial columns that are left have the value 0
pub record IsFeasible (s : System) (t : Dictionary) : Type 0 where
  pub held : IsTableauOf s t
  pub feasible : IsFeasibleAt s t.basis t.table

-- a row with an artificial column is 0 at all unknowns and at the right sides
abbrev pub IsIdle : System → Dictionary → Type 0
IsIdle s t = AreIdle s t.basis t.table
