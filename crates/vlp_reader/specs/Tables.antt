-- What the reader's parts have of the statements so far.
use Rattle.std.specs.Prelude.{◌≡◌, ℕ, ◌+◌, ◌-◌, ◌<◌, ◌==◌, ◌&&◌, if◌then◌else◌, List, length, slice_index_or, map, unwrap_or, count_by, Option, None, Some, Result}
use Rattle.std.specs.BTreeMap.{btree_map_len}
use Rattle.exact_field.specs.Rational.{ℚ, zero_ℚ}
use Rattle.vlp_reader.specs.Places.{given}
use Rattle.vlp_problem.specs.Sides.{numbers_from}
use Rattle.vlp_reader.specs.Grammar.{first_given, given_entry, given_bound, gives_entry, number_value, entry_fault, limit_fault}
use Rattle.vlp_reader.specs.declared.fault.FileKind.{FileKind}
use Rattle.vlp_problem.specs.declared.problem.Bound.{Bound}
use Rattle.vlp_problem.specs.declared.problem.Axis.{Axis}
use Rattle.vlp_reader.specs.declared.statement.Matrix.{Matrix}
use Rattle.vlp_reader.specs.declared.statement.Statement.{Statement}
use Rattle.vlp_reader.specs.declared.table.Table.{Table}

-- a table has the entries of a matrix that statements give
pub record HasEntries (table : Table) (m : Matrix) (statements : List Statement) : Type 0 where
  pub values : (i j : ℕ) → given table.cells i j ≡ first_given (given_entry m i j) statements
  pub count : btree_map_len table.cells ≡ count_by (gives_entry m) statements

-- a table has one value more
pub record Adds (old new : Table) (row col : ℕ) (number : Result ℚ FileKind) : Type 0 where
  pub values : (i j : ℕ) → given new.cells i j ≡ (if i == row && j == col then Some (number_value number) else given old.cells i j)
  pub count : btree_map_len new.cells ≡ btree_map_len old.cells + 1

-- the tests of an entry of a table
abbrev pub place_fault : Table → (row col : ℕ) → Result ℚ FileKind → Option FileKind
place_fault table row col number = entry_fault table.rows table.cols row col number (given table.cells row col)

-- the tests of a bound of a list
abbrev pub slot_fault : List (Option Bound) → ℕ → Result Bound FileKind → Option FileKind
slot_fault bounds n bound = limit_fault (length bounds) n bound (slice_index_or bounds (n - 1) None)

-- a list has the bounds that statements give the rows or columns
pub record HasBounds (bounds : List (Option Bound)) (axis : Axis) (statements : List Statement) : Type 0 where
  pub bound : (k : ℕ) → k < length bounds → slice_index_or bounds k None ≡ first_given (given_bound axis (k + 1)) statements

-- column j of a table
abbrev pub table_column : Table → ℕ → List ℚ
table_column table j = map (λ i. unwrap_or (given table.cells i j) zero_ℚ) (numbers_from 1 table.rows)
