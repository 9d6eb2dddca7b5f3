-- What the tests of a guess tell, by the columns of the program.
use Rattle.std.specs.Prelude.{ℕ, ◌-◌, ◌≤◌, ◌<◌, ◌≡◌, Bool, IsTrue, List, ◌∷◌, map, length, All, slice_index_or}
use Rattle.exact_field.specs.Rational.{ℚ, zero_ℚ, one_ℚ, neg_ℚ, ◌≤ℚ◌, ◌<ℚ◌}
use Rattle.exact_field.specs.Vector.{entry, dot}
use Rattle.polyhedra.specs.Vectors.{AtLeastZero, combination, zeros}
use Rattle.shown_bases.specs.Orders.{Order, ShowsRank}
use Rattle.shown_program.specs.Marks.{mark_at}
use Rattle.program_columns.specs.Program.{AreInRange, column_in, vectors_in}
use Rattle.program_columns.specs.declared.columns.Columns.{Columns}

-- no value is negative, and that of an artificial column is 0
pub record AreAllowed (unknowns : ℕ) (columns : List ℕ) (values : List ℚ) : Type 0 where
  pub at_least_zero : AtLeastZero values
  pub artificial : (k : ℕ) → 1 ≤ k → k ≤ length columns →
      unknowns < slice_index_or columns (k - 1) 0 → entry values k ≡ zero_ℚ

-- the columns, times these values, sum to a vector
abbrev pub SumTo : {F : Type 0} → (F → ℚ) → Columns F → List ℕ → List ℚ → List ℚ → Type 0
SumTo value p columns values total =
    combination (length p.right) values (vectors_in value p columns) ≡ total

-- the multipliers' product with the column of an unknown is at least its cost
abbrev pub Bound : {F : Type 0} → (F → ℚ) → Columns F → List ℚ → Type 0
Bound value p y = (k : ℕ) → 1 ≤ k → k ≤ length p.cost →
    entry (map value p.cost) k ≤ℚ dot y (column_in value p k)

-- .. and is equal to it; an artificial column has the cost 0
abbrev pub IsTight : {F : Type 0} → (F → ℚ) → Columns F → List ℚ → ℕ → Type 0
IsTight value p y k = dot y (column_in value p k) ≡ entry (map value p.cost) k

-- the multipliers make up for the cost of each of the first n columns that is that of an unknown, and
-- exactly for those that are marked
pub record ArePriced {F : Type 0} (value : F → ℚ) (p : Columns F) (y : List ℚ) (n : ℕ)
    (tight : List Bool) : Type 0 where
  pub many : length tight ≡ n
  pub bound : (k : ℕ) → 1 ≤ k → k ≤ n → k ≤ length p.cost →
      entry (map value p.cost) k ≤ℚ dot y (column_in value p k)
  pub tight_at : (k : ℕ) → 1 ≤ k → k ≤ n → IsTrue (mark_at tight k) → IsTight value p y k

-- an unknown's column, with these changes of the columns of a basis, sums to 0, and the cost rises
pub record IsAlong {F : Type 0} (value : F → ℚ) (p : Columns F) (columns : List ℕ) (col : ℕ)
    (changes : List ℚ) : Type 0 where
  pub from_one : 1 ≤ col
  pub unknown : col ≤ length p.cost
  pub one_each : length changes ≡ length columns
  pub allowed : AreAllowed (length p.cost) columns changes
  pub level : SumTo value p (col ∷ columns) (one_ℚ ∷ changes) (zeros (length p.right))
  pub rises : zero_ℚ <ℚ dot (one_ℚ ∷ changes) (map (entry (map value p.cost)) (col ∷ columns))

-- the multipliers make up for the first phase's cost of a column: 0 for an unknown, and 1 for an
-- artificial column, whose product with them is then -1
pub record IsFirstPrice {F : Type 0} (value : F → ℚ) (p : Columns F) (y : List ℚ) (k : ℕ) : Type 0 where
  pub unknown : k ≤ length p.cost → dot y (column_in value p k) ≡ zero_ℚ
  pub artificial : length p.cost < k → dot y (column_in value p k) ≡ neg_ℚ one_ℚ

-- the multipliers' product with the column of each unknown is at least 0
abbrev pub AreNotBelow : {F : Type 0} → (F → ℚ) → Columns F → List ℚ → Type 0
AreNotBelow value p y = (k : ℕ) → 1 ≤ k → k ≤ length p.cost → zero_ℚ ≤ℚ dot y (column_in value p k)

-- all that the tests of a guess of an optimum tell
pub record Passes {F : Type 0} (value : F → ℚ) (p : Columns F) (columns : List ℕ)
    (values y : List ℚ) (order : Order) : Type 0 where
  pub range : AreInRange p columns
  pub values_each : length values ≡ length columns
  pub allowed : AreAllowed (length p.cost) columns values
  pub solve : SumTo value p columns values (map value p.right)
  pub multipliers_each : length y ≡ length p.right
  pub bound : Bound value p y
  pub tight : All (IsTight value p y) columns
  pub rank : ShowsRank (length p.right) (vectors_in value p columns) order

-- .. those of a guess of solutions of any cost
pub record PassesAlong {F : Type 0} (value : F → ℚ) (p : Columns F) (columns : List ℕ)
    (values : List ℚ) (col : ℕ) (changes : List ℚ) (order : Order) : Type 0 where
  pub range : AreInRange p columns
  pub values_each : length values ≡ length columns
  pub allowed : AreAllowed (length p.cost) columns values
  pub solve : SumTo value p columns values (map value p.right)
  pub along : IsAlong value p columns col changes
  pub rank : ShowsRank (length p.right) (vectors_in value p columns) order

-- .. and those of a guess that there is no solution
pub record PassesEmpty {F : Type 0} (value : F → ℚ) (p : Columns F) (columns : List ℕ)
    (y : List ℚ) (order : Order) : Type 0 where
  pub range : AreInRange p columns
  pub multipliers_each : length y ≡ length p.right
  pub prices : All (IsFirstPrice value p y) columns
  pub bound : AreNotBelow value p y
  pub below : dot y (map value p.right) <ℚ zero_ℚ
  pub rank : ShowsRank (length p.right) (vectors_in value p columns) order
