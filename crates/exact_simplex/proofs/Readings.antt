-- What is read off a tableau of a program.
use Rattle.std.proofs.Common.{◌≡◌, ℕ, length, map, sym, refl, ap, ◌∙◌, subst, arith, ◌<◌, ◌≤◌, ◌+◌, ◌-◌, Bool, inr, slice_index_or}
use Rattle.std.proofs.lemmas.List.{get_or-map}
use Rattle.exact_field.specs.Field.{IsLeftOf}
use Rattle.exact_field.specs.Rational.{ℚ, zero_ℚ, one_ℚ, ◌*ℚ◌}
use Rattle.exact_field.specs.Vector.{entry}
use Rattle.exact_field.specs.declared.op.Op.TheVariants.{Sub}
use Rattle.exact_field.specs.declared.op.Left.{Left as Operation}
use Rattle.polyhedra.proofs.Laws.{mul_one}
use Rattle.tableaux.specs.Table.{System, IsSystem, at, table_of, artificial_sign, artificial_column, equation_count, first_cost}
use Rattle.tableaux.proofs.Places.{delta-same}
use Rattle.tableaux.proofs.Entries.{sign_of, equation-artificial}
use Rattle.lin_rows.specs.declared.fault.RowFault.{RowFault}
use Rattle.lin_rows.specs.declared.system.System.{System as Program}
use Rattle.lin_rows.specs.Tableau.{Dictionary}
use Rattle.exact_simplex.specs.Ends.{IsSystemFault}
use Rattle.lin_rows.specs.Pivot.{IsGivenUp}
use Rattle.exact_simplex.specs.Program.{IsTableauOf}
use Rattle.lin_rows.specs.System.{HasLengths, system_of}
use Rattle.exact_simplex.proofs.Pivots.{rows_many}
use Rattle.exact_simplex.proofs.Programs.{system_ok, equation_count_is, unknown_count_is, right_column_is}

module _ {F : Type 0} (value : F → ℚ) (p : Program F) (lengths : HasLengths p) where
  abbrev s : System
  s = system_of value p

  ok : IsSystem s
  ok = system_ok value p lengths

  -- the sign in an artificial column
  pub sign_is : (i : ℕ) (b : F) → i < p.rows → b ≡ slice_index_or p.b i b → artificial_sign (value b) ≡ at (table_of s) (i + 1) (artificial_column s (i + 1))
  sign_is i b l b_is =
      let inside : i < equation_count s = omega (arith, l, equation_count_is value p lengths) in
      let same : i ≡ i + 1 - 1 = omega arith in
      let right : value b ≡ entry s.right (i + 1) =
      sym (get_or-map value p.b i b zero_ℚ (omega (arith, l, lengths.right)) ∙ ap value (sym b_is)) ∙ ap (λ k. slice_index_or (map value p.b) k zero_ℚ) same in
      ap artificial_sign right ∙ sym (mul_one (sign_of s ok (i + 1))) ∙ ap (λ q. sign_of s ok (i + 1) *ℚ q) (sym (delta-same (i + 1) (i + 1) refl))
      ∙ sym (equation-artificial s ok (i + 1) (i + 1) (omega arith) (omega arith) (omega arith) (omega arith))

  module _ (t : Dictionary) (held : IsTableauOf s t) where
    -- the row r, counted from 0
    pub row_there : (r : ℕ) → r ≤ p.rows + 1 → r < length t.table
    row_there r l = omega (arith, l, rows_many value s ok t held, equation_count_is value p lengths)

    module _ (i : ℕ) (inside : i < p.rows) (col : ℕ) (col_is : col ≡ p.cols + i + 1) where
      pub artificial_is : col ≡ artificial_column s (i + 1)
      artificial_is = omega (arith, col_is, unknown_count_is value p lengths)

      pub artificial_high : col ≤ t.width
      artificial_high = omega (arith, col_is, inside, right_column_is value p lengths, held.width)

      pub less_one_fault : (holds : ℚ → Bool) (left : Operation F) (fault : RowFault F) →
          IsLeftOf value holds Sub (at t.table (p.rows + 1) (artificial_column s (i + 1))) one_ℚ left → IsGivenUp t.basis (p.rows + 1) col 3 left fault →
          IsSystemFault value holds s fault
      less_one_fault holds left fault stuck e =
          let first : p.rows + 1 ≡ first_cost s = omega (arith, equation_count_is value p lengths) in
          subst (IsSystemFault value holds s) (sym e) (
            t.table,
            held.dictionary,
            inr (
              i + 1,
              omega arith,
              omega (arith, inside, equation_count_is value p lengths),
              first,
              artificial_is,
              refl,
              subst (λ (c : ℕ). IsLeftOf value holds Sub (at t.table (p.rows + 1) c) one_ℚ left) (sym artificial_is) stuck,
            ),
          )
