-- Operands of quotients: a vector that may be divided, and what divides it.
use Rattle.std.specs.Prelude.{ℕ, ◌≤◌, List, ◌≡◌, ◌≢◌, ◌⊎◌, length, Some}
use Rattle.exact_field.specs.Rational.{ℚ}
use Rattle.exact_field.specs.Vector.{entry}
use Rattle.exact_field.specs.declared.op.Op.TheVariants.{Div}
use Rattle.exact_field.specs.declared.op.Left.{Left}
use Rattle.polyhedra.specs.DoubleDescription.{leading, magnitude, norming}
use Rattle.tableaux.specs.Table.{Table, column_of}
use Rattle.tableaux.specs.Dictionary.{basic_column}
use Rattle.tableaux.specs.Elimination.{AreInverse, IsClearAt, ray_of}
use Rattle.vlp_problem.specs.declared.program.Program.{Program}
use Rattle.lp_form.specs.Programs.{choice_of, share_of}
use Rattle.overflows.specs.Steps.{operation}
use Rattle.overflows.specs.Base.{IsSolutionOff, AreMultipliersOff, AreFirstMultipliersOff, IsRayOff, IsBaseRay, IsConeDirection, image_of}
use Rattle.overflows.specs.Settings.{Setting}
use Rattle.overflows.specs.Dictionaries.{system_in, IsAllowed, AreStartRows, IsElimDictionary}

-- ---- the norming of a first generator
-- a quotient of the norming of a first generator: an entry of a column of the inverse of these rows
-- by the magnitude that norms it
pub record IsNormingStep (s : Setting) (rows : List (List ℚ)) (col number : ℕ) (left : Left ℚ) : Type 0 where
  pub allowed : AreStartRows s rows (length rows)
  pub inverse : Table
  pub is : AreInverse (length rows) rows inverse
  pub corner : ℕ
  pub corner_from_one : 1 ≤ corner
  pub corner_to_end : corner ≤ length rows
  pub from_one : 1 ≤ col
  pub to_end : col ≤ length rows
  pub first : number ≡ 1
  pub same : left ≡ operation Div (entry (column_of inverse corner) col) (magnitude (norming (column_of inverse corner)))

-- ---- norming
-- a vector that is read off a dictionary of an allowed program, whole, or its choice or its share
pub record IsReadVector (s : Setting) (v : List ℚ) : Type 0 where
  pub program : Program
  pub allowed : IsAllowed s program
  pub whole : List ℚ
  pub read :
      IsSolutionOff (system_in s program) whole
      ⊎ (AreMultipliersOff (system_in s program) whole
      ⊎ (AreFirstMultipliersOff (system_in s program) whole ⊎ IsRayOff (system_in s program) whole))
  pub same : (v ≡ whole) ⊎ ((v ≡ choice_of s.file whole) ⊎ (v ≡ share_of s.file s.file.cone whole))

-- a vector that is read off a dictionary of an elimination at a column that no row has, and that is
-- 0 in each row without a column, where only columns of the rows are named and none of a unit
-- matrix beside them: it has the product 0 with each of the rows
pub record IsOrthogonalOff (s : Setting) (v : List ℚ) : Type 0 where
  pub rows : List (List ℚ)
  pub width : ℕ
  pub columns : ℕ
  pub basis : List ℕ
  pub dictionary : Table
  pub is : IsElimDictionary s rows width columns basis dictionary
  pub col : ℕ
  pub from_one : 1 ≤ col
  pub to_end : col ≤ width
  pub within : (i : ℕ) → basic_column basis i ≤ width
  pub free : (i : ℕ) → basic_column basis i ≢ col
  pub clear : IsClearAt basis dictionary col
  pub same : v ≡ ray_of width basis dictionary col

-- a vector that may be divided by a number
pub data IsScaled (s : Setting) (v : List ℚ) : Type 0 where
  given : s.file.duality ≡ Some v → IsScaled s v
  direction : IsConeDirection s.file v → IsScaled s v
  image : (r : List ℚ) → IsBaseRay s.file r → v ≡ image_of s.file r → IsScaled s v
  read : IsReadVector s v → IsScaled s v
  orthogonal : IsOrthogonalOff s v → IsScaled s v

-- what it is divided by: the magnitude of one of its entries, the last entry of f, or, for a base
-- ray, the magnitude of the first entry of its image that is not 0
pub data IsDivisor (s : Setting) (v : List ℚ) (by : ℚ) : Type 0 where
  own : (k : ℕ) → 1 ≤ k → k ≤ length v → by ≡ magnitude (entry v k) → IsDivisor s v by
  given : (f : List ℚ) → s.file.duality ≡ Some f → by ≡ entry f (length f) → IsDivisor s v by
  ray : IsBaseRay s.file v → by ≡ magnitude (leading (image_of s.file v)) → IsDivisor s v by

-- an entry of such a vector divided by such a number
pub record IsScaleStep (s : Setting) (v : List ℚ) (k : ℕ) (left : Left ℚ) : Type 0 where
  pub vector : IsScaled s v
  pub from_one : 1 ≤ k
  pub to_end : k ≤ length v
  pub by : ℚ
  pub divisor : IsDivisor s v by
  pub same : left ≡ operation Div (entry v k) by
