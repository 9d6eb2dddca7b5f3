-- One turn of a phase keeps what the phase keeps, and its measure falls.
use Rattle.std.proofs.Common.{◌≡◌, ◌≢◌, ℕ, List, length, sym, ap, ◌∙◌, subst, arith, ◌<◌, ◌≤◌, ◌+◌, ◌-◌, inl, inr, Some, slice_set}
use Rattle.std.proofs.lemmas.Bool.{cases_eq, cases_order}
use Rattle.std.proofs.lemmas.List.{length-set}
use Rattle.std.proofs.lemmas.List.Elements.{All-set}
use Rattle.exact_field.specs.Rational.{ℚ, zero_ℚ, ◌<ℚ◌}
use Rattle.exact_field.proofs.Inequalities.{positive-not-zero}
use Rattle.polyhedra.specs.Sparse.{Entry}
use Rattle.tableaux.specs.Table.{Table, row_of, at, pivoted, pivoted_row}
use Rattle.tableaux.specs.Dictionary.{basic_column, IsDictionary}
use Rattle.tableaux.specs.Lex.{IsLexBelow, entries_at}
use Rattle.tableaux.proofs.Matrix.{HasMatrix}
use Rattle.tableaux.proofs.Definition.{matrix_form, pivot_keeps_dictionary}
use Rattle.tableaux.proofs.Eliminated.{exchanged}
use Rattle.tableaux.proofs.Places.{length-list_from}
use Rattle.tableaux.proofs.Remaining.{remaining, cost_at, all_lists, is_listed, measure_falls}
use Rattle.tableaux.proofs.Turns.{turn_rises}
use Rattle.lin_rows.specs.Lines.{AreLines}
use Rattle.lin_rows.specs.Pivot.{table_of}
use Rattle.lin_rows.specs.Tableau.{Dictionary, exchange}
use Rattle.lin_rows.proofs.Pivoted.{at_is, length-table}
use Rattle.exact_simplex.specs.Phase.{IsEquationBasis, IsStart, IsTurn, StaysDictionary, ArePositive}
use Rattle.exact_simplex.specs.Ratios.{IsLeaving}
use Rattle.exact_simplex.proofs.PhaseKeeps.{positive_kept}

module _ (equations : ℕ) (columns : List ℕ) (from now : Dictionary) (s : IsStart equations columns from) (turn : IsTurn equations columns from now)
    (ls : List (List Entry)) (rises : AreLines from.width ls) (d_is : table_of from.width ls ≡ now.table)
    (row col : ℕ) (low : 1 ≤ col) (high : col ≤ from.width) (found : IsLeaving ls col columns equations (Some row)) where
  abbrev n : ℕ
  n = from.width

  abbrev start : Table
  start = from.table

  abbrev first : List ℕ
  first = from.basis

  abbrev d : Table
  d = now.table

  abbrev basis : List ℕ
  basis = now.basis

  own : IsDictionary n start basis d
  own = turn.dictionary start s.own.wide s.own

  many : length d ≡ length ls
  many = sym (ap length d_is) ∙ length-table n ls rises

  inside : equations ≤ length ls
  inside = omega (arith, s.inside, own.one_each, many)

  pub pivot_up : zero_ℚ <ℚ at d (row + 1) col
  pivot_up = subst (λ (q : ℚ). zero_ℚ <ℚ q) (sym (at_is n ls rises row col (omega (arith, found.0, inside)) low high) ∙ ap (λ (t : Table). at t (row + 1) col) d_is) found.1

  pub pivot_not_zero : at d (row + 1) col ≢ zero_ℚ
  pivot_not_zero = positive-not-zero (at d (row + 1) col) pivot_up

  within : row < length basis
  within = omega (arith, found.0, inside, turn.one_each, many)

  module _ (after : Dictionary) (is : after ≡ exchange now row col) where
    table : after.table ≡ pivoted d (row + 1) col
    table = ap (λ (t : Dictionary). t.table) is

    basis_is : after.basis ≡ slice_set basis row col
    basis_is = ap (λ (t : Dictionary). t.basis) is

    dictionary_after : StaysDictionary n start first after.table after.basis
    dictionary_after t wide h =
        let before : IsDictionary n t basis d = turn.dictionary t wide h in
        subst (λ (b : List ℕ). IsDictionary n t b after.table) (sym basis_is)
        (subst (λ (e : Table). IsDictionary n t (slice_set basis row col) e) (sym table)
        (pivot_keeps_dictionary n t basis d (row + 1) col (slice_set basis row col) wide before (omega arith) (omega (arith, found.0, inside, many, before.one_each)) low high
        pivot_not_zero (exchanged basis row col within)))

    basis_after : IsEquationBasis n equations (slice_set basis row col)
    basis_after =
        let moved = exchanged basis row col within in
        record {
          full = λ i l. elim (cases_eq (i + 1) (row + 1)) [
            | inl e ↦ λ none. absurd (omega (arith, low, sym (ap (basic_column (slice_set basis row col)) e ∙ moved.here) ∙ none))
            | inr o ↦ λ none. turn.full.full i l (sym (moved.elsewhere (i + 1) (omega arith) o) ∙ none)
          ];
          only = λ i l. moved.elsewhere i (omega (arith, l)) (λ e. omega (arith, e, l, found.0)) ∙ turn.full.only i l;
          high = All-set (λ c. c ≤ n) basis row col high turn.full.high;
        }

    named : (k : ℕ) → 1 ≤ k → basic_column basis k ≢ 0 → k ≤ equations
    named k l some = elim (cases_order equations k) [ inl e ↦ omega (arith, e) | inr rest ↦ elim rest [ inl above ↦ absurd (some (turn.full.only k above)) | inr below ↦ omega (arith, below) ] ]

    first_some : (k : ℕ) → 1 ≤ k → k ≤ equations → basic_column first k ≢ 0
    first_some k l u none = let back : k - 1 + 1 ≡ k = omega arith in s.full.full (k - 1) (omega (arith, l, u)) (ap (basic_column first) back ∙ none)

    positive_after : ArePositive equations columns (pivoted d (row + 1) col)
    positive_after i l =
        let m = matrix_form n start basis d s.own.wide own in
        subst (λ (x : Table). HasMatrix n start basis x m.0 → ArePositive equations columns x → ArePositive equations columns (pivoted x (row + 1) col)) d_is
        (λ has positive. positive_kept n start first basis ls m.0 col columns equations row s.own.wide has rises low high s.placed
        (λ i k a b a' b' some. s.own.unit_columns i k a b a' b' (first_some k a' (named k a' some)))
        (λ k a b some. s.compared k a (named k a some))
        s.inside turn.full.full found positive)
        m.1 turn.positive i l

    pub turn_more : IsTurn equations columns from after
    turn_more =
        record {
          width = ap (λ (t : Dictionary). t.width) is ∙ turn.width;
          one_each = ap length basis_is ∙ length-set basis row col ∙ turn.one_each ∙ sym (length-list_from 1 (length d) (pivoted_row d (row + 1) col)) ∙ sym (ap length table);
          dictionary = dictionary_after;
          full = subst (IsEquationBasis n equations) (sym basis_is) basis_after;
          positive = subst (ArePositive equations columns) (sym table) positive_after;
        }

    pub turn_falls : (cost m : ℕ) → equations ≤ cost → cost < length start → length start ≡ m → at d (cost + 1) col <ℚ zero_ℚ →
        remaining (cost_at n start (cost + 1) columns) (all_lists m n) (entries_at columns (row_of after.table (cost + 1)))
        < remaining (cost_at n start (cost + 1) columns) (all_lists m n) (entries_at columns (row_of d (cost + 1)))
    turn_falls cost m past cost_in long down =
        let still : IsDictionary n start after.basis after.table = dictionary_after start s.own.wide s.own in
        let long_after : length after.basis ≡ m = ap length basis_is ∙ length-set basis row col ∙ turn.one_each ∙ own.one_each ∙ long in
        let full = subst (IsEquationBasis n equations) (sym basis_is) basis_after in
        measure_falls n start (cost + 1) columns (all_lists m n) after.basis d after.table s.own.wide (omega arith) (omega (arith, cost_in))
        (is_listed m n after.basis long_after full.high) still
        (subst (λ (e : Table). IsLexBelow (entries_at columns (row_of d (cost + 1))) (entries_at columns (row_of e (cost + 1)))) (sym table)
        (turn_rises n d own.wide columns (row + 1) col (omega arith) (omega (arith, found.0, inside, many)) pivot_up (cost + 1) (omega arith) (omega (arith, cost_in, own.one_each))
        (λ e. omega (arith, e, found.0, past)) down (turn.positive row found.0)))
