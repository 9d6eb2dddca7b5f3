-- When an overflow of a conversion is licensed: the operation's exact result is not held, the trail is
-- empty, and the operands are those that the place names, over rows of the text.
use Rattle.std.specs.Prelude.{ℕ, suc, ◌+◌, ◌≤◌, ⊤, Bool, List, [], ◌∷◌, ◌++◌, ◌≡◌, ◌≢◌, ◌⊎◌, map, length, All, Contains}
use Rattle.exact_field.specs.Rational.{ℚ, zero_ℚ}
use Rattle.exact_field.specs.Vector.{entry}
use Rattle.exact_field.specs.declared.op.Op.TheVariants.{Div}
use Rattle.exact_field.specs.declared.op.Left.{Left as Operation}
use Rattle.polyhedra.specs.DoubleDescription.{magnitude, norming}
use Rattle.polyhedra.specs.LiveList.{LiveList, Numbered}
use Rattle.lineality.specs.Without.{with_zeros, without}
use Rattle.tableaux.specs.Table.{Table, at, beside_unit, column_of}
use Rattle.tableaux.specs.Dictionary.{IsDictionary}
use Rattle.tableaux.specs.Elimination.{AreInverse}
use Rattle.lin_rows.specs.Pivot.{IsPivotStep}
use Rattle.deriv_log.specs.declared.licence.Family.TheVariants.{Rep as RowsOfRep}
use Rattle.deriv_log.specs.declared.licence.Licence.{Licence}
use Rattle.deriv_log.specs.declared.licence.Place.{Place}
use Rattle.deriv_log.specs.declared.licence.Place.TheVariants.{Elim, Pair}
use Rattle.overflows.specs.Generators.{IsMadeOver, IsPairStep}
use Rattle.overflows.specs.Steps.{operation, IsNotHeld, IsProductStep}
use Rattle.overflows.specs.declared.fault.SolveFault.{SolveFault}
use Rattle.overflows.specs.declared.fault.SolveFault.TheVariants as solving
use Rattle.rep_conv.specs.Rows.{text_rows}
use Rattle.rep_text.specs.declared.rep.Rep.{Rep}
use Rattle.rep_convert.specs.Lines.{AreLinesOf, marks_of, rows_without, width_without}
use Rattle.rep_convert.specs.declared.fault.ConvFault.{ConvFault}
use Rattle.rep_convert.specs.declared.fault.ConvFault.TheVariants as converting

-- ---- eliminations
-- rows of the text without the entries at the places of its lines
pub record AreShort (rep : Rep) (rows lines : List (List ℚ)) : Type 0 where
  pub lines_are : AreLinesOf rep lines
  pub of_text : All (Contains (rows_without rep lines)) rows

-- the table of an elimination of rows of the text, with the number of its columns: the rows, whole
-- or without the entries at the places of the lines; or, in that of a start, as many rows without
-- these entries as they have entries left, with the unit matrix beside them
pub data IsElimTable (rep : Rep) (rows : List (List ℚ)) (t : Table) : ℕ → Type 0 where
  whole : All (Contains (text_rows rep)) rows → t ≡ rows → IsElimTable rep rows t (suc rep.width)
  short : (lines : List (List ℚ)) → AreShort rep rows lines → t ≡ rows →
      IsElimTable rep rows t (width_without rep lines)
  start : (lines : List (List ℚ)) → AreShort rep rows lines → length rows ≡ width_without rep lines →
      t ≡ beside_unit rows → IsElimTable rep rows t (length rows + length rows)

-- a step of a pivot at an entry that is not 0, in the dictionary of such a table at the basis, which
-- has one place for each row
pub record IsElimStep (holds : ℚ → Bool) (rep : Rep) (rows : List (List ℚ)) (basis : List ℕ)
    (row col number : ℕ) (left : Operation ℚ) : Type 0 where
  pub table : Table
  pub columns : ℕ
  pub allowed : IsElimTable rep rows table columns
  pub dictionary : Table
  pub is : IsDictionary columns table basis dictionary
  pub one_each : length basis ≡ length rows
  pub row_from_one : 1 ≤ row
  pub col_from_one : 1 ≤ col
  pub operands : IsPivotStep (λ q. q) holds columns dictionary row col number left
  pub pivot : at dictionary row col ≢ zero_ℚ

-- a quotient of the norming of a first generator: an entry of a column of the inverse of the rows of
-- a start by the magnitude that norms the column
pub record IsNormingStep (rep : Rep) (rows : List (List ℚ)) (col number : ℕ)
    (left : Operation ℚ) : Type 0 where
  pub lines : List (List ℚ)
  pub short : AreShort rep rows lines
  pub square : length rows ≡ width_without rep lines
  pub inverse : Table
  pub is : AreInverse (length rows) rows inverse
  pub corner : ℕ
  pub corner_from_one : 1 ≤ corner
  pub corner_to_end : corner ≤ length rows
  pub from_one : 1 ≤ col
  pub to_end : col ≤ length rows
  pub first : number ≡ 1
  pub same :
      let generator = column_of inverse corner in
      left ≡ operation Div (entry generator col) (magnitude (norming generator))

-- ---- double description
-- rows of the text that are in use, and the live generators over them by their making, all without
-- the entries at the places of the lines
pub record AreInUse (rep : Rep) (lines used : List (List ℚ)) (list : LiveList) : Type 0 where
  pub lines_are : AreLinesOf rep lines
  pub of_text : All (Contains (text_rows rep)) used
  pub made : IsMadeOver (width_without rep lines) (map (without (marks_of rep lines)) used) list

-- a step of the addition of the last of these rows to those before it
pub record IsAdditionStep (rep : Rep) (rows : List (List ℚ)) (first second number : ℕ)
    (left : Operation ℚ) : Type 0 where
  pub lines : List (List ℚ)
  pub used : List (List ℚ)
  pub list : LiveList
  pub in_use : AreInUse rep lines used list
  pub row : List ℚ
  pub added : Contains (text_rows rep) row
  pub rows_are :
      let bs = marks_of rep lines in
      rows ≡ map (without bs) used ++ without bs row ∷ []
  pub operands :
      let bs = marks_of rep lines in
      IsPairStep (map (without bs) used) (without bs row) list first second number left

-- ---- sums of products
-- a row of the text and a line, or a row in use and a live generator with zeros at the places of the
-- lines
pub data AreMultiplied (rep : Rep) (row v : List ℚ) : Type 0 where
  line : (lines : List (List ℚ)) → AreLinesOf rep lines → Contains (text_rows rep) row →
      Contains lines v → AreMultiplied rep row v
  generator : (lines used : List (List ℚ)) (list : LiveList) (g : Numbered) →
      AreInUse rep lines used list → Contains used row → Contains list.live g →
      v ≡ with_zeros (marks_of rep lines) g.vector → AreMultiplied rep row v

-- an operation outside an elimination: of the norming of a first generator over these rows; or,
-- without rows, of a sum of products, with either list first
pub data IsListStep (rep : Rep) (rows : List (List ℚ)) (col number : ℕ)
    (left : Operation ℚ) : Type 0 where
  normed : IsNormingStep rep rows col number left → IsListStep rep rows col number left
  forward : (row v : List ℚ) → rows ≡ [] → AreMultiplied rep row v →
      IsProductStep col number row v left →
      IsListStep rep rows col number left
  backward : (row v : List ℚ) → rows ≡ [] → AreMultiplied rep row v →
      IsProductStep col number v row left →
      IsListStep rep rows col number left

-- ---- licences
-- the operands are those that the place names
abbrev pub IsAt : (ℚ → Bool) → Rep → Place → Operation ℚ → Type 0
IsAt holds rep (Elim rows basis row col step) left =
    IsElimStep holds rep rows basis row col step left
    ⊎ ((row ≡ 0) × (basis ≡ []) × IsListStep rep rows col step left)
IsAt holds rep (Pair RowsOfRep rows first second step) left =
    IsAdditionStep rep rows first second step left
IsAt holds rep _ left = ⊥

-- the overflow of a conversion of this representation
pub record IsConvLicensed (holds : ℚ → Bool) (rep : Rep) (licence : Licence) : Type 0 where
  pub trail : licence.trail ≡ []
  pub not_held : IsNotHeld holds licence.left
  pub operands : IsAt holds rep licence.place licence.left

-- a fault has a licence of the conversion; nothing of want of memory
abbrev pub IsConvLeft : (ℚ → Bool) → Rep → ConvFault → Type 0
IsConvLeft holds rep (converting.Left licence) = IsConvLicensed holds rep licence
IsConvLeft holds rep converting.NoMemory = ⊤

-- a fault with the same licence, or of want of memory too
abbrev pub IsFaultOf : SolveFault → ConvFault → Type 0
IsFaultOf (solving.Left licence) fault = fault ≡ converting.Left licence
IsFaultOf solving.NoMemory fault = fault ≡ converting.NoMemory
