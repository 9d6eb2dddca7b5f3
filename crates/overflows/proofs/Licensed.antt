-- What calls tell of their overflows, as licences.
use Rattle.std.proofs.Common.{◌≡◌, ℕ, Bool, IsTrue, List, [], ◌++◌, length, refl, sym, ap, ap₂, ◌∙◌, subst, ◌⊎◌}
use Rattle.exact_field.specs.Rational.{ℚ, zero_ℚ}
use Rattle.exact_field.specs.Vector.{entry}
use Rattle.exact_field.specs.declared.op.Op.{Op}
use Rattle.exact_field.specs.declared.op.Op.TheVariants.{Div}
use Rattle.exact_field.specs.declared.op.Left.{Left as Operation}
use Rattle.tableaux.specs.Table.{Table, row_of, unit}
use Rattle.tableaux.proofs.Places.{length-list_from}
use Rattle.lin_rows.specs.Eliminate.{IsElimFault}
use Rattle.lin_rows.specs.declared.fault.RowFault.TheVariants.{Left as Stuck}
use Rattle.exact_simplex.specs.Ends.{IsSystemLeft}
use Rattle.deriv_log.specs.declared.entry.Entry.{Entry}
use Rattle.vlp_problem.specs.declared.program.Program.{Program}
use Rattle.deriv_log.specs.declared.licence.Place.TheVariants.{Pivot, Elim, Scale}
use Rattle.overflows.specs.Laws.{term_number}
use Rattle.overflows.proofs.Given.{overflow_laws}
use Rattle.overflows.specs.Dictionaries.{IsAllowed, IsElimTable, system_in}
use Rattle.overflows.specs.Licence.{IsOverflow}
use Rattle.overflows.specs.Products.{AreMultiplied}
use Rattle.overflows.specs.Quotients.{IsDivisor, IsScaled}
use Rattle.overflows.specs.Settings.{Setting}
use Rattle.overflows.specs.Steps.{in_numbers, operation}
use Rattle.overflows.specs.Faults.{IsQuotientAt, IsTermAt, Overflows, placed}
use Rattle.overflows.specs.declared.fault.SolveFault.{SolveFault}
use Rattle.overflows.specs.declared.fault.SolveFault.TheVariants.{Left}
use Rattle.overflows.specs.declared.fault.SumFault.{SumFault}
use Rattle.overflows.proofs.Placed.{placed_long, placed_dictionary}

module _ {F : Type 0} (value : F → ℚ) (holds : ℚ → Bool) (zero : IsTrue (holds zero_ℚ)) (s : Setting) (trail : List Entry)
    (result : SolveFault) where
  -- of a linear program
  pub program_overflows : (name : Program) (basis : List ℕ) (row col step : ℕ) (left : Operation F) → IsTrue (holds (value left.a)) →
      result ≡ Left (record { place = Pivot name basis row col step; left = in_numbers value left; trail = trail }) → IsAllowed s name →
      IsSystemLeft value holds (system_in s name) basis row col step left → Overflows holds s trail result
  program_overflows name basis row col step left held told allowed fault =
      subst (λ (r : SolveFault). Overflows holds s trail r) (sym told)
      (refl, overflow_laws.program holds s name basis row col step (in_numbers value left) zero held allowed fault)

  -- of an elimination
  pub elimination_overflows : (rows : List (List ℚ)) (width columns : ℕ) (t : Table) (basis : List ℕ) (row col step : ℕ) (left : Operation F) →
      IsTrue (holds (value left.a)) →
      result ≡ Left (record { place = Elim rows (placed (length rows) row basis) row col step; left = in_numbers value left; trail = trail }) →
      IsElimTable s rows width t columns → IsElimFault value holds columns t (Stuck basis row col step left) → Overflows holds s trail result
  elimination_overflows rows width columns t basis row col step left held told table (d, is, h, row_low, row_high, col_low, col_high) =
      subst (λ (r : SolveFault). Overflows holds s trail r) (sym told) (
        refl,
        overflow_laws.elimination holds s rows width t columns (placed (length rows) row basis) row col step (in_numbers value left) zero held table
            (placed_long (length rows) row basis row_low) row_low col_low
            (d, placed_dictionary columns t (length rows) row basis d (table_long table) row_low is, h, row_low, row_high, col_low, col_high),
      )
    where
      table_long : IsElimTable s rows width t columns → length t ≡ length rows
      table_long (IsElimTable.alone may same many) = ap (λ (x : Table). length x) same
      table_long (IsElimTable.beside may square same many) =
          ap (λ (x : Table). length x) same ∙ length-list_from 1 (length rows) (λ i. row_of rows i ++ unit (length rows) i)

  -- of a quotient
  pub quotient_overflows : (v : List ℚ) (k : ℕ) (left : Operation F) →
      result ≡ Left (record { place = Scale v k; left = in_numbers value left; trail = trail }) → IsScaled s v → IsDivisor s v (value left.b) →
      IsQuotientAt value holds v k left → Overflows holds s trail result
  quotient_overflows v k left told scaled divisor at =
      let same : in_numbers value left ≡ operation Div (entry v k) (value left.b) = quotient_is left.op (value left.a) (entry v k) (value left.b) at.division at.entry_is in
      subst (λ (r : SolveFault). Overflows holds s trail r) (sym told) (
        refl,
        subst (λ (l : Operation ℚ). IsOverflow holds s (Scale v k) l) (sym same)
            (overflow_laws.scale holds s v k (value left.b) zero scaled at.from_one at.to_end divisor at.not_held),
      )
    where
      quotient_is : (o : Op) (a b c : ℚ) → o ≡ Div → a ≡ b → operation o a c ≡ operation Div b c
      quotient_is o a b c e f = cc

  -- what is told at a place of a sum, with no rows and no basis
  pub told_at : (rows : List (List ℚ)) (basis : List ℕ) (place number : ℕ) (o : Op) (left : Operation ℚ) → rows ≡ [] → basis ≡ [] → number ≡ term_number o →
      result ≡ Left (record { place = Elim rows basis 0 place number; left = left; trail = trail }) →
      result ≡ Left (record { place = Elim [] [] 0 place (term_number o); left = left; trail = trail })
  told_at rows basis place number o left no_rows no_basis numbered told =
      told
      ∙ ap₂ (λ (r : List (List ℚ)) (b : List ℕ). Left (record { place = Elim r b 0 place number; left = left; trail = trail })) no_rows no_basis
      ∙ ap (λ (n : ℕ). Left (record { place = Elim [] [] 0 place n; left = left; trail = trail })) numbered

  -- of a term of a sum
  pub term_overflows : (xs ys : List ℚ) (fault : SumFault F) → IsTrue (holds (value fault.left.a)) →
      result ≡ Left (record { place = Elim [] [] 0 fault.place (term_number fault.left.op); left = in_numbers value fault.left; trail = trail }) →
      AreMultiplied s xs ys ⊎ AreMultiplied s ys xs → IsTermAt value holds xs ys fault → Overflows holds s trail result
  term_overflows xs ys fault held told allowed at =
      subst (λ (r : SolveFault). Overflows holds s trail r) (sym told)
      (refl, overflow_laws.term holds s xs ys fault.place (in_numbers value fault.left) zero allowed at.from_one at.in_first at.in_second at.step)
