-- The optimal end of a linear program, read off the columns of a basis alone.
use Rattle.std.specs.Prelude.{ℕ, suc, ◌+◌, ◌≤◌, ◌<◌, List, [], ◌∷◌, ◌++◌, ◌≡◌, length, All}
use Rattle.exact_field.specs.Rational.{ℚ, zero_ℚ, ◌+ℚ◌, ◌≤ℚ◌}
use Rattle.exact_field.specs.Vector.{entry, dot}
use Rattle.tableaux.specs.Table.{Table, System, IsSystem, at, column_of, listed, equation_rows, table_of, equation_count, unknown_count, right_column, second_cost}
use Rattle.tableaux.specs.Dictionary.{basic_column, IsDictionary, value_of_column}
use Rattle.tableaux.specs.Elimination.{IsEliminated}
use Rattle.tableaux.specs.Simplex.{BoundsColumns, OptimalAt}
use Rattle.tableaux.specs.Chosen.{chosen, named}

-- the rows of the equations in the table of a system
abbrev pub equation_table : System → Table
equation_table s = equation_rows (equation_count s) 1 s.equations s.right

-- as many columns of unknowns and of artificials as there are equations
pub record AreColumns (s : System) (columns : List ℕ) : Type 0 where
  pub one_each : length columns ≡ equation_count s
  pub from_one : All (λ c. 1 ≤ c) columns
  pub to_end : All (λ c. c ≤ unknown_count s + equation_count s) columns

-- the columns, and that of the right sides after them
abbrev pub beside_right : System → List ℕ → List ℕ
beside_right s columns = columns ++ right_column s ∷ []

-- a dictionary of these columns of the equations, with the right sides after them, in which each equation has one of the columns
pub record IsSolved (s : System) (columns basis : List ℕ) (d : Table) : Type 0 where
  pub one_each : length basis ≡ equation_count s
  pub dictionary : IsDictionary (suc (equation_count s)) (chosen (beside_right s columns) (equation_table s)) basis d
  pub eliminated : IsEliminated 0 (equation_count s) (equation_count s) basis

-- the values of the columns, which stand after them
abbrev pub value_at : System → Table → ℕ → ℚ
value_at s d i = at d i (suc (equation_count s))

-- the basis is feasible: no value is negative, and that of an artificial column is 0
pub record IsAllowed (s : System) (basis : List ℕ) (d : Table) : Type 0 where
  pub at_least_zero : (i : ℕ) → 1 ≤ i → i ≤ equation_count s → zero_ℚ ≤ℚ value_at s d i
  pub artificial : (i : ℕ) → 1 ≤ i → i ≤ equation_count s → unknown_count s < basic_column basis i → value_at s d i ≡ zero_ℚ

-- the numbers that column j has in the equations
abbrev pub equations_at : System → ℕ → List ℚ
equations_at s j = column_of (equation_table s) j

-- the simplex multipliers of the columns: they make up for the cost of each
pub record ArePrices (s : System) (columns : List ℕ) (y : List ℚ) : Type 0 where
  pub one_each : length y ≡ equation_count s
  pub equal : All (λ c. at (table_of s) (second_cost s) c +ℚ dot y (equations_at s c) ≡ zero_ℚ) columns

-- the columns are a basis at which the program has its optimum
abbrev pub OptimumIsRead : Type 0
OptimumIsRead = (s : System) (columns basis : List ℕ) (d : Table) (x y : List ℚ) → IsSystem s → AreColumns s columns → IsSolved s columns basis d →
    IsAllowed s (named columns basis) d → ArePrices s columns y → BoundsColumns s (entry s.cost) y →
    x ≡ listed (unknown_count s) (value_of_column (named columns basis) (column_of d (suc (equation_count s)))) →
    (whole : Table) × OptimalAt s (named columns basis) whole x y
