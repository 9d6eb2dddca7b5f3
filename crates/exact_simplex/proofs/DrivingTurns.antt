-- One turn of driving artificial columns out, at a tableau.
use Rattle.std.proofs.Common.{◌≡◌, ◌≢◌, ℕ, List, [], length, sym, ap, ◌∙◌, subst, arith, ◌<◌, ◌≤◌, ◌+◌, ◌-◌, Bool, inl, inr, None, Some, slice_index_or}
use Rattle.std.specs.declared.alloc.Global.{Global}
use Rattle.std.specs.declared.vec.Vec.{Vec}
use Rattle.std.proofs.lemmas.Bool.{cases_eq}
use Rattle.exact_field.specs.Rational.{ℚ, zero_ℚ}
use Rattle.tableaux.specs.Table.{Table, System, IsSystem, at, equation_count, unknown_count, right_column}
use Rattle.tableaux.specs.Dictionary.{basic_column}
use Rattle.tableaux.specs.Simplex.{IsFeasibleAt}
use Rattle.tableaux.proofs.Definition.{same_default}
use Rattle.lin_rows.specs.declared.spots.Spot.{Spot}
use Rattle.lin_rows.specs.declared.fault.RowFault.{RowFault}
use Rattle.lin_rows.specs.declared.system.System.{System as Program}
use Rattle.lin_rows.specs.Tableau.{Dictionary, exchange}
use Rattle.lin_rows.specs.Lines.{entries, lines, sum_at}
use Rattle.lin_rows.specs.Pivot.{AreTableau, IsPivotFault, table_of}
use Rattle.lin_rows.proofs.Pivoted.{at_is, length-table}
use Rattle.exact_simplex.specs.Driving.{IsIdleTo, IsSupport}
use Rattle.exact_simplex.specs.Ends.{IsSystemFault}
use Rattle.exact_simplex.specs.Program.{IsFeasible, IsIdle}
use Rattle.lin_rows.specs.System.{HasLengths, system_of}
use Rattle.exact_simplex.proofs.Driven.{driven_feasible, driven_idle}
use Rattle.exact_simplex.proofs.Pivots.{rows_many, basis_many, pivot_fault, held_after}
use Rattle.exact_simplex.proofs.Programs.{system_ok, equation_count_is, unknown_count_is}

module _ {F : Type 0} (value : F → ℚ) (p : Program F) (lengths : HasLengths p) where
  abbrev s : System
  s = system_of value p

  ok : IsSystem s
  ok = system_ok value p lengths

  pub idle_at_end : (t : Dictionary) (k : ℕ) → k ≡ p.rows → IsFeasible s t → IsIdleTo s k t → IsIdle s t
  idle_at_end t k e h idle =
      record {
        unknown = λ i j l u more a b. idle i j l (omega (arith, u, e, equation_count_is value p lengths)) more a b;
        right = h.feasible.artificial;
      }

  module _ (t : Dictionary) (h : IsFeasible s t) (i : ℕ) (inside : i < p.rows) (idle : IsIdleTo s i t) where
    i_inside : i < equation_count s
    i_inside = omega (arith, inside, equation_count_is value p lengths)

    pub row_inside : i < length t.table
    row_inside = omega (arith, i_inside, rows_many value s ok t h.held)

    pub basis_inside : i < length t.basis
    basis_inside = omega (arith, i_inside, basis_many value s ok t h.held)

    named : (b : ℕ) → b ≡ slice_index_or t.basis i b → basic_column t.basis (i + 1) ≡ b
    named b is =
        let same : i + 1 - 1 ≡ i = omega arith in
        ap (λ k. slice_index_or t.basis k 0) same ∙ same_default t.basis i 0 b basis_inside ∙ sym is

    -- a row that has an unknown's column, or is 0 at all unknowns
    more_idle : ((j : ℕ) → unknown_count s < basic_column t.basis (i + 1) → 1 ≤ j → j ≤ unknown_count s → at t.table (i + 1) j ≡ zero_ℚ) → IsIdleTo s (i + 1) t
    more_idle here k j l u more a b =
        elim (cases_eq k (i + 1)) [
          | inl e ↦ ap (λ r. at t.table r j) e ∙ here j (subst (λ r. unknown_count s < basic_column t.basis r) e more) a b
          | inr o ↦ idle k j l (omega (arith, u, o)) more a b
        ]

    pub unknown_named : (b : ℕ) → b ≡ slice_index_or t.basis i b → b ≤ p.cols → IsIdleTo s (i + 1) t
    unknown_named b is low = more_idle (λ j more a c. absurd (omega (arith, more, named b is, low, unknown_count_is value p lengths)))

    module _ (rows : List (Vec (Spot F) Global)) (are : AreTableau t.width (lines value rows) t.basis) (table : table_of t.width (lines value rows) ≡ t.table)
        (spots : List (Spot F)) (is : entries value spots ≡ slice_index_or (lines value rows) i []) where
      in_lines : i < length (lines value rows)
      in_lines = omega (arith, row_inside, sym (ap length table) ∙ length-table t.width (lines value rows) are.lines)

      read : (j : ℕ) → 1 ≤ j → j ≤ t.width → at t.table (i + 1) j ≡ sum_at (entries value spots) j
      read j a b = ap (λ (d : Table). at d (i + 1) j) (sym table) ∙ at_is t.width (lines value rows) are.lines i j in_lines a b ∙ ap (λ es. sum_at es j) (sym is)

      pub row_zero : IsSupport (entries value spots) p.cols None → IsIdleTo s (i + 1) t
      row_zero none =
          more_idle (λ j more a b. read j a (omega (arith, b, h.held.width)) ∙ none j a (omega (arith, b, unknown_count_is value p lengths)))

      module _ (col : ℕ) (found : IsSupport (entries value spots) p.cols (Some col)) where
        col_high : col ≤ unknown_count s
        col_high = omega (arith, found.1, unknown_count_is value p lengths)

        high : col < right_column s
        high = omega (arith, col_high)

        pub turn_high : col ≤ t.width
        turn_high = omega (arith, high, h.held.width)

        pub turn_pivot : at t.table (i + 1) col ≢ zero_ℚ
        turn_pivot = subst (λ (q : ℚ). q ≢ zero_ℚ) (sym (read col found.0 turn_high)) found.2

        pub turn_fault : (holds : ℚ → Bool) (fault : RowFault F) → IsPivotFault value holds t.width t.table t.basis (i + 1) col fault → IsSystemFault value holds s fault
        turn_fault holds fault = pivot_fault value s ok t h.held i col i_inside found.0 high holds fault

        module _ (b : ℕ) (b_is : b ≡ slice_index_or t.basis i b) (over : p.cols < b) (t' : Dictionary) (t_is : t' ≡ exchange t i col) where
          artificial : unknown_count s < basic_column t.basis (i + 1)
          artificial = omega (arith, over, named b b_is, unknown_count_is value p lengths)

          pub turn_feasible : IsFeasible s t'
          turn_feasible =
              record {
                held = held_after value s ok t h.held i col i_inside found.0 high turn_pivot t' t_is;
                feasible = subst (λ (x : Dictionary). IsFeasibleAt s x.basis x.table) (sym t_is)
                    (driven_feasible s ok t.basis t.table h.feasible i col i_inside basis_inside found.0 col_high turn_pivot artificial);
              }

          pub turn_idle : IsIdleTo s (i + 1) t'
          turn_idle =
              subst (IsIdleTo s (i + 1)) (sym t_is)
              (driven_idle s ok t.basis t.table h.feasible i col i_inside basis_inside found.0 col_high turn_pivot artificial idle)
