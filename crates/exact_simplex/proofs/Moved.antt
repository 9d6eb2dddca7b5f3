-- What a phase moves, one pivot further.
use Rattle.std.proofs.Common.{◌≡◌, ◌≢◌, ℕ, List, length, sym, ap, ◌∙◌, subst, arith, ◌<◌, ◌≤◌, ◌+◌, inl, inr, refl, Bool, slice_set}
use Rattle.std.proofs.lemmas.Bool.{cases_eq}
use Rattle.exact_field.specs.Rational.{ℚ, zero_ℚ}
use Rattle.exact_field.specs.Vector.{entry}
use Rattle.exact_field.specs.declared.op.Left.{Left as Operation}
use Rattle.polyhedra.specs.Vectors.{AreWide}
use Rattle.tableaux.specs.Table.{Table, at}
use Rattle.tableaux.specs.Dictionary.{basic_column, IsExchanged}
use Rattle.lin_rows.specs.declared.fault.RowFault.{RowFault}
use Rattle.lin_rows.specs.declared.fault.RowFault.TheVariants.{Left, NoMemory}
use Rattle.lin_rows.specs.Pivot.{IsGivenUp, IsPivotFault, IsPivotStep}
use Rattle.lin_rows.specs.Tableau.{Dictionary, exchange}
use Rattle.exact_simplex.specs.Phase.{AreEntered, IsEquationBasis, IsMoved, IsPhaseFault, StaysDictionary}
use Rattle.exact_simplex.proofs.Untouched.{row_untouched}

pub moved_none : (equations unknowns : ℕ) (start : Dictionary) → IsMoved equations unknowns start start
moved_none equations unknowns start = record { entered = λ i l. inl refl; rows = λ i l none. refl }

pub moved_more : (n equations unknowns : ℕ) (start now : Dictionary) (row col : ℕ) → AreWide n now.table → equations ≤ length now.table → IsMoved equations unknowns start now →
    row < equations → 1 ≤ col → col ≤ unknowns → at now.table (row + 1) col ≢ zero_ℚ → IsExchanged now.basis (row + 1) col (slice_set now.basis row col) →
    IsMoved equations unknowns start (exchange now row col)
moved_more n equations unknowns start now row col wide inside h l low high pivot change =
    let d : Table = now.table in
    let after : List ℕ = slice_set now.basis row col in
    record {
      entered = λ i a. elim (cases_eq i (row + 1)) [
        | inl e ↦ inr (omega (arith, high, ap (basic_column after) e ∙ change.here))
        | inr o ↦ elim (h.entered i a) [ inl same ↦ inl (change.elsewhere i a o ∙ same) | inr unknown ↦ inr (omega (arith, unknown, change.elsewhere i a o)) ]
      ];
      rows = λ i u none.
          let old = h.rows i u none in
          let zero_there : at d (i + 1) col ≡ zero_ℚ = ap (λ r. entry r col) old ∙ none col low high in
          row_untouched n d (row + 1) col (i + 1) wide (omega arith) (omega (arith, l, inside)) (omega arith) (omega (arith, u, inside))
          (λ e. pivot (ap (λ k. at d k col) (sym e) ∙ zero_there)) zero_there
          ∙ old;
    }

module _ {F : Type 0} (value : F → ℚ) (holds : ℚ → Bool) (equations unknowns : ℕ) (start : Dictionary) (d : Table) (basis : List ℕ) (row col : ℕ)
    (dictionary : StaysDictionary start.width start.table start.basis d basis) (full : IsEquationBasis start.width equations basis) (entered : AreEntered unknowns start.basis basis) (inside : row < equations) (low : 1 ≤ col) (high : col ≤ unknowns) where
  abbrev n : ℕ
  n = start.width

  pub given_up_fault : (step : ℕ) (left : Operation F) (fault : RowFault F) → IsPivotStep value holds n d (row + 1) col step left → IsGivenUp basis (row + 1) col step left fault →
      IsPhaseFault value holds equations unknowns start fault
  given_up_fault step left fault stuck e =
      subst (IsPhaseFault value holds equations unknowns start) (sym e) (d, dictionary, full, entered, omega arith, omega arith, low, high, stuck)

  pub pivot_given_up : (fault : RowFault F) → IsPivotFault value holds n d basis (row + 1) col fault → IsPhaseFault value holds equations unknowns start fault
  pivot_given_up (Left basis' row' col' step left) stuck = (
    d,
    subst (λ (b : List ℕ). StaysDictionary n start.table start.basis d b) (sym stuck.0) dictionary,
    subst (IsEquationBasis n equations) (sym stuck.0) full,
    subst (AreEntered unknowns start.basis) (sym stuck.0) entered,
    omega (arith, stuck.1),
    omega (arith, stuck.1, inside),
    omega (arith, stuck.2, low),
    omega (arith, stuck.2, high),
    subst (λ (r : ℕ). IsPivotStep value holds n d r col' step left) (sym stuck.1)
        (subst (λ (c : ℕ). IsPivotStep value holds n d (row + 1) c step left) (sym stuck.2) stuck.3),
  )
  pivot_given_up NoMemory stuck = tt
