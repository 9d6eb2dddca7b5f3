-- One turn of the opening, at a tableau.
use Rattle.std.proofs.Common.{◌≡◌, ◌≢◌, ℕ, length, sym, ap, ◌∙◌, subst, arith, ◌<◌, ◌≤◌, ◌+◌, Bool}
use Rattle.exact_field.specs.Rational.{ℚ, zero_ℚ}
use Rattle.tableaux.specs.Table.{System, IsSystem, at, artificial_column, equation_count, right_column}
use Rattle.lin_rows.specs.declared.fault.RowFault.{RowFault}
use Rattle.lin_rows.specs.declared.system.System.{System as Program}
use Rattle.lin_rows.specs.Tableau.{Dictionary, exchange}
use Rattle.lin_rows.specs.Pivot.{IsPivotFault}
use Rattle.exact_simplex.specs.Ends.{IsSystemFault}
use Rattle.exact_simplex.specs.Program.{IsPrimal, IsTableauOf, IsUnopened}
use Rattle.lin_rows.specs.System.{HasLengths, system_of}
use Rattle.exact_simplex.proofs.Opened.{IsOpened, opened_none, opening_pivot, opened_more}
use Rattle.exact_simplex.proofs.Pivots.{rows_many, basis_many, pivot_fault, held_after}
use Rattle.exact_simplex.proofs.Programs.{system_ok, equation_count_is, unknown_count_is, right_column_is}

module _ {F : Type 0} (value : F → ℚ) (p : Program F) (lengths : HasLengths p) where
  abbrev s : System
  s = system_of value p

  ok : IsSystem s
  ok = system_ok value p lengths

  pub opening_begins : (t : Dictionary) → IsUnopened s t → IsOpened s 0 t.basis t.table
  opening_begins t h = opened_none s ok t.basis t.table h.held.dictionary h.table h.empty

  pub opening_ends : (t : Dictionary) (k : ℕ) → k ≡ p.rows → IsTableauOf s t → IsOpened s k t.basis t.table → IsPrimal s t
  opening_ends t k e held opened =
      let many : k ≡ equation_count s = e ∙ sym (equation_count_is value p lengths) in
      record {
        held = held;
        full = λ i l u none. absurd (omega (arith, sym (opened.named i l (omega (arith, u, many))) ∙ none, l));
        right = λ i l u. opened.right i l (omega (arith, u, many));
      }

  module _ (t : Dictionary) (held : IsTableauOf s t) (i : ℕ) (inside : i < p.rows) (opened : IsOpened s i t.basis t.table) (col : ℕ) (col_is : col ≡ p.cols + i + 1) where
    i_inside : i < equation_count s
    i_inside = omega (arith, inside, equation_count_is value p lengths)

    is_artificial : col ≡ artificial_column s (i + 1)
    is_artificial = omega (arith, col_is, unknown_count_is value p lengths)

    low : 1 ≤ col
    low = omega (arith, col_is)

    high : col < right_column s
    high = omega (arith, col_is, inside, right_column_is value p lengths)

    pub turn_inside : i < length t.table
    turn_inside = omega (arith, i_inside, rows_many value s ok t held)

    pub turn_high : col ≤ t.width
    turn_high = omega (arith, high, held.width)

    long : i < length t.basis
    long = omega (arith, i_inside, basis_many value s ok t held)

    pub turn_pivot : at t.table (i + 1) col ≢ zero_ℚ
    turn_pivot = subst (λ (c : ℕ). at t.table (i + 1) c ≢ zero_ℚ) (sym is_artificial) (opening_pivot s ok i t.basis t.table opened i_inside long)

    pub turn_fault : (holds : ℚ → Bool) (fault : RowFault F) → IsPivotFault value holds t.width t.table t.basis (i + 1) col fault → IsSystemFault value holds s fault
    turn_fault holds fault = pivot_fault value s ok t held i col i_inside low high holds fault

    module _ (t' : Dictionary) (is : t' ≡ exchange t i col) where
      pub turn_held : IsTableauOf s t'
      turn_held = held_after value s ok t held i col i_inside low high turn_pivot t' is

      pub turn_opened : IsOpened s (i + 1) t'.basis t'.table
      turn_opened =
          subst (λ (x : Dictionary). IsOpened s (i + 1) x.basis x.table) (sym (is ∙ ap (exchange t i) is_artificial))
          (opened_more s ok i t.basis t.table opened i_inside long)
