-- The start of a double description: as many independent rows as they have entries, with their corners, normed.
use Rattle.std.specs.Prelude.{ℕ, ◌+◌, ◌-◌, ◌≤◌, ◌≡◌, ◌⊎◌, List, [], ◌∷◌, ◌++◌, All, Bool, take}
use Rattle.exact_field.specs.Field.{IsLeftOf}
use Rattle.exact_field.specs.Rational.{ℚ}
use Rattle.exact_field.specs.Vector.{entry}
use Rattle.exact_field.specs.declared.op.Op.TheVariants.{Div}
use Rattle.exact_field.specs.declared.op.Left.{Left}
use Rattle.polyhedra.specs.Dependence.{AreCorners}
use Rattle.polyhedra.specs.DoubleDescription.{IsNormed, magnitude, norming}
use Rattle.polyhedra.specs.LiveList.{starting}
use Rattle.tableaux.specs.Table.{Table, beside_unit, column_of}
use Rattle.tableaux.specs.Elimination.{AreInverse, columns_of}
use Rattle.lin_rows.specs.Eliminate.{IsElimFault}
use Rattle.lin_rows.specs.declared.fault.RowFault.TheVariants.{Left as Stopped, NoMemory as Want}
use Rattle.double_descr.specs.State.{State}
use Rattle.double_descr.specs.Steps.{Step, IsHeld, IsFirst, quotient_steps}
use Rattle.double_descr.specs.declared.fault.DdFault.{DdFault}
use Rattle.double_descr.specs.declared.fault.DdFault.TheVariants.{Elim, Left as Stuck, NoMemory}

-- the steps that norm a vector: each entry by the magnitude of the one that norms it
abbrev pub norming_steps : List ℚ → List Step
norming_steps v = quotient_steps (magnitude (norming v)) v

-- the state of these rows, and of normed vectors under the numbers from 1 on: row i is positive at vector i and 0 at the others
pub record IsStart (n : ℕ) (rows : List (List ℚ)) (s : State) : Type 0 where
  pub width : s.width ≡ n
  pub rows_are : s.rows ≡ rows
  pub vectors : List (List ℚ)
  pub corners : AreCorners n rows vectors
  pub normed : All IsNormed vectors
  pub list_is : s.list ≡ starting 1 vectors

-- a vector was given up at the first of the steps that norm it that is not held; its number is told as the column
abbrev pub IsNormingFault : {F : Type 0} → (F → ℚ) → (ℚ → Bool) → List ℚ → DdFault F → Type 0
IsNormingFault value holds vector (Elim (Stopped basis row col step left)) =
    (basis ≡ []) × (row ≡ 0) × (step ≡ 1) × IsFirst value holds (norming_steps vector) col left
IsNormingFault value holds vector (Elim Want) = ⊥
IsNormingFault value holds vector (Stuck first second step left) = ⊥
IsNormingFault value holds vector NoMemory = Unit {0}

-- of several vectors in their order, the first that cannot be normed was given up
pub record IsFirstNormingFault {F : Type 0} (value : F → ℚ) (holds : ℚ → Bool) (vectors : List (List ℚ)) (fault : DdFault F) : Type 0 where
  pub before : List (List ℚ)
  pub vector : List ℚ
  pub after : List (List ℚ)
  pub split : vectors ≡ before ++ vector ∷ after
  pub held : All (λ v. All (IsHeld holds) (norming_steps v)) before
  pub here : IsNormingFault value holds vector fault

-- the same, or nothing of want of memory
abbrev pub AreNotNormed : {F : Type 0} → (F → ℚ) → (ℚ → Bool) → List (List ℚ) → DdFault F → Type 0
AreNotNormed value holds vectors (Elim fault) = IsFirstNormingFault value holds vectors (Elim fault)
AreNotNormed value holds vectors (Stuck first second step left) = ⊥
AreNotNormed value holds vectors NoMemory = Unit {0}

-- a quotient of the norming of the columns of the inverse of these rows is not held, and is the first: that of the entry at this place
-- of a column by the magnitude that norms the column
pub record IsNormingLeft {F : Type 0} (value : F → ℚ) (holds : ℚ → Bool) (n : ℕ) (rows : List (List ℚ)) (col : ℕ) (left : Left F) : Type 0 where
  pub inverse : Table
  pub is : AreInverse n rows inverse
  pub corner : ℕ
  pub corner_from_one : 1 ≤ corner
  pub corner_to_end : corner ≤ n
  pub from_one : 1 ≤ col
  pub to_end : col ≤ n
  pub left_is : IsLeftOf value holds Div (entry (column_of inverse corner) col) (magnitude (norming (column_of inverse corner))) left
  pub columns_before : All (λ v. All (IsHeld holds) (norming_steps v)) (take (corner - 1) (columns_of n inverse))
  pub entries_before : All (IsHeld holds) (take (col - 1) (norming_steps (column_of inverse corner)))

-- a start was given up: at a step of the elimination of the rows with the unit matrix beside them, or, with no basis and row 0, at the
-- norming of a column of the inverse
abbrev pub IsStartFault : {F : Type 0} → (F → ℚ) → (ℚ → Bool) → ℕ → List (List ℚ) → DdFault F → Type 0
IsStartFault value holds n rows (Elim (Stopped basis row col step left)) =
    IsElimFault value holds (n + n) (beside_unit rows) (Stopped basis row col step left)
    ⊎ ((basis ≡ []) × (row ≡ 0) × (step ≡ 1) × IsNormingLeft value holds n rows col left)
IsStartFault value holds n rows (Elim Want) = ⊥
IsStartFault value holds n rows (Stuck first second step left) = ⊥
IsStartFault value holds n rows NoMemory = Unit {0}
