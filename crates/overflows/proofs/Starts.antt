-- Overflows of starts, in any setting where their rows may be eliminated.
use Rattle.std.proofs.Common.{◌≡◌, ℕ, ◌+◌, List, [], length, Bool, IsTrue, refl, sym, ap₂, ◌∙◌, subst, inl, inr}
use Rattle.exact_field.specs.Rational.{ℚ, zero_ℚ}
use Rattle.exact_field.specs.Vector.{entry}
use Rattle.exact_field.specs.declared.op.Op.TheVariants.{Div}
use Rattle.exact_field.specs.declared.op.Left.{Left}
use Rattle.polyhedra.specs.DoubleDescription.{magnitude, norming as norming-of}
use Rattle.tableaux.specs.Table.{Table, beside_unit, column_of}
use Rattle.lin_rows.specs.Eliminate.{IsElimFault}
use Rattle.lin_rows.specs.declared.fault.RowFault.{RowFault}
use Rattle.lin_rows.specs.declared.fault.RowFault.TheVariants.{Left as Stopped, NoMemory as Want}
use Rattle.double_descr.specs.Starting.{IsNormingLeft, IsStart, IsStartFault}
use Rattle.double_descr.specs.State.{State}
use Rattle.double_descr.specs.declared.fault.DdFault.TheVariants.{Elim as Starting}
use Rattle.polyhedra.specs.LiveList.{LiveList}
use Rattle.deriv_log.specs.declared.entry.Entry.{Entry}
use Rattle.deriv_log.specs.declared.licence.Place.{Place}
use Rattle.deriv_log.specs.declared.licence.Place.TheVariants.{Elim}
use Rattle.overflows.specs.Dictionaries.{AreStartRows, IsElimTable}
use Rattle.overflows.specs.Generators.{IsMadeOver}
use Rattle.overflows.specs.Licence.{IsOverflow}
use Rattle.overflows.specs.Settings.{Setting}
use Rattle.overflows.specs.Steps.{in_numbers, operation}
use Rattle.overflows.proofs.Given.{overflow_laws, same_operation}
use Rattle.overflows.proofs.Making.{generator_laws}
use Rattle.overflows.specs.Faults.{IsEliminationLeft, IsLeftAt, Overflows, placed}
use Rattle.overflows.specs.declared.fault.SolveFault.{SolveFault}
use Rattle.overflows.specs.declared.fault.SolveFault.TheVariants.{Left as Stuck, NoMemory}
use Rattle.overflows.proofs.Placed.{placed_none}

-- what is told of a place overflows, if an operation there does
pub left_overflows : (holds : ℚ → Bool) (s : Setting) (place : Place) (left : Left ℚ) (trail : List Entry) (told : SolveFault) → IsLeftAt place left trail told →
    IsOverflow holds s place left → Overflows holds s trail told
left_overflows holds s place left trail (Stuck licence) is over = subst (λ l. Overflows holds s trail (Stuck l)) (sym is) (refl, over)
left_overflows holds s place left trail NoMemory is over = tt

-- what is told of the fault of an elimination of these rows overflows in each setting where they
-- may be eliminated
abbrev pub AlwaysOverflows : {F : Type 0} → (F → ℚ) → (ℚ → Bool) → List (List ℚ) → List Entry → RowFault F → SolveFault → Type 0
AlwaysOverflows value holds rows trail fault told =
    (s : Setting) (width columns : ℕ) (t : Table) → IsElimTable s rows width t columns → IsElimFault value holds columns t fault →
    Overflows holds s trail told

module _ {F : Type 0} (value : F → ℚ) (holds : ℚ → Bool) (zero : IsTrue (holds zero_ℚ)) (s : Setting) where
  -- ---- normings
  norming : (n : ℕ) (rows : List (List ℚ)) (basis : List ℕ) (row col number : ℕ) (left : Left F) → length rows ≡ n → AreStartRows s rows n →
      basis ≡ [] → row ≡ 0 → number ≡ 1 → IsNormingLeft value holds n rows col left →
      IsOverflow holds s (Elim rows basis row col number) (in_numbers value left)
  norming n rows basis row col number left many c none zero_row first h = go (subst (λ (m : ℕ). IsNormingLeft value holds m rows col left) (sym many) h)
    where
      go : IsNormingLeft value holds (length rows) rows col left → IsOverflow holds s (Elim rows basis row col number) (in_numbers value left)
      go h =
          let by = magnitude (norming-of (column_of h.inverse h.corner)) in
          let over = overflow_laws.norming holds s rows h.inverse h.corner col zero (subst (λ (m : ℕ). AreStartRows s rows m) (sym many) c)
          h.is h.corner_from_one h.corner_to_end h.from_one h.to_end h.left_is.3 in
          let same : in_numbers value left ≡ operation Div (entry (column_of h.inverse h.corner) col) by =
          same_operation left.op Div (value left.a) (entry (column_of h.inverse h.corner) col) (value left.b) by h.left_is.0 h.left_is.1 h.left_is.2 in
          subst (λ (l : Left ℚ). IsOverflow holds s (Elim rows basis row col number) l) (sym same)
          (subst (λ (r : ℕ). IsOverflow holds s (Elim rows basis r col number) (operation Div (entry (column_of h.inverse h.corner) col) by)) (sym zero_row)
          (subst (λ (k : ℕ). IsOverflow holds s (Elim rows basis 0 col k) (operation Div (entry (column_of h.inverse h.corner) col) by)) (sym first)
          (subst (λ (b : List ℕ). IsOverflow holds s (Elim rows b 0 col 1) (operation Div (entry (column_of h.inverse h.corner) col) by)) (sym none) over)))

  -- of a start with as many independent rows as they have entries
  pub start_overflows : (n : ℕ) (rows : List (List ℚ)) (trail : List Entry) (fault : RowFault F) (told : SolveFault) → length rows ≡ n →
      AreStartRows s rows n → IsStartFault value holds n rows (Starting fault) → IsEliminationLeft value rows trail fault told →
      AlwaysOverflows value holds rows trail fault told → Overflows holds s trail told
  start_overflows n rows trail (Stopped basis row col number left) told many c (inl h) is over =
      over s n (n + n) (beside_unit rows) (IsElimTable.beside c many refl (sym (ap₂ (λ a b. a + b) many many))) h
  start_overflows n rows trail (Stopped basis row col number left) told many c (inr h) is over =
      left_overflows holds s (Elim rows (placed (length rows) row basis) row col number) (in_numbers value left) trail told is
      (norming n rows (placed (length rows) row basis) row col number left many c (placed_none (length rows) row basis h.1 ∙ h.0) h.1 h.2 h.3)
  start_overflows n rows trail Want told many c h is over = absurd h

-- a start is made over its rows
pub made_of_start : (n : ℕ) (rows : List (List ℚ)) (s : State) → IsStart n rows s → IsMadeOver n s.rows s.list
made_of_start n rows s h =
    subst (λ (rs : List (List ℚ)). IsMadeOver n rs s.list) (sym h.rows_are)
    (subst (λ (l : LiveList). IsMadeOver n rows l) (sym h.list_is) (generator_laws.starts n rows h.vectors h.corners h.normed))
