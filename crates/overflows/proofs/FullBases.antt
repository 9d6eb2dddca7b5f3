-- What stands in the dictionary of a system at a full basis, by the multipliers of its rows.
use Rattle.std.proofs.Common.{◌≡◌, ◌≢◌, ℕ, zero, suc, List, length, sym, ap, ◌∙◌, arith, ◌<◌, ◌≤◌, ◌+◌, ◌-◌}
use Rattle.std.specs.Prelude.{◌==◌}
use Rattle.exact_field.specs.Rational.{ℚ}
use Rattle.exact_field.specs.Vector.{entry, dot}
use Rattle.tableaux.specs.Table.{Table, System, IsSystem, row_of, at, column_of, table_of, equation_count, unknown_count, right_column}
use Rattle.tableaux.specs.Dictionary.{basic_column, IsFullDictionaryOf}
use Rattle.tableaux.proofs.Places.{row-wide, if_true, delta}
use Rattle.tableaux.proofs.Matrix.{HasMatrix}
use Rattle.tableaux.proofs.Definition.{matrix_form}
use Rattle.tableaux.proofs.Entries.{table-long, table-wide}
use Rattle.tableaux.proofs.Unique.{entry-combination}

module _ (s : System) (ok : IsSystem s) (basis : List ℕ) (d : Table) (h : IsFullDictionaryOf s basis d) where
  t_long : length (table_of s) ≡ suc (suc (equation_count s))
  t_long = table-long s ok

  form : (m : Table) × HasMatrix (right_column s) (table_of s) basis d m
  form = matrix_form (right_column s) (table_of s) basis d (table-wide s ok) h.dictionary.dictionary

  -- those of row i
  pub shares_of : ℕ → List ℚ
  shares_of i = row_of form.0 i

  pub length-shares : (i : ℕ) → 1 ≤ i → i ≤ suc (suc (equation_count s)) → length (shares_of i) ≡ suc (suc (equation_count s))
  unfolding shares_of
  length-shares i l u = row-wide (length (table_of s)) form.0 i form.1.m_wide l (omega (arith, u, t_long, form.1.m_many)) ∙ t_long

  pub entry_by : (i j : ℕ) → 1 ≤ i → i ≤ suc (suc (equation_count s)) → at d i j ≡ dot (shares_of i) (column_of (table_of s) j)
  unfolding shares_of
  entry_by i j l u =
      ap (λ (r : List ℚ). entry r j) (form.1.rows i l (omega (arith, u, t_long))) ∙ entry-combination (right_column s) (row_of form.0 i) (table_of s) j

  -- a row takes a cost row once, where it is this row, and otherwise not
  pub cost_share : (i k : ℕ) → 1 ≤ i → i ≤ suc (suc (equation_count s)) → equation_count s < k → k ≤ suc (suc (equation_count s)) →
      entry (shares_of i) k ≡ delta i k
  unfolding shares_of
  cost_share i k l u low high =
      sym (if_true (basic_column basis k == 0) (at form.0 i k) (at d i (basic_column basis k))
      (ap (λ (c : ℕ). c == 0) (h.dictionary.columns.equations_only k low)))
      ∙ form.1.tests i k l (omega (arith, u, t_long)) (omega arith) (omega (arith, high, t_long))

  -- a column of the basis is 1 in its row, and 0 in the others
  pub named_entry : (i k : ℕ) → 1 ≤ i → i ≤ suc (suc (equation_count s)) → 1 ≤ k → k ≤ equation_count s → at d i (basic_column basis k) ≡ delta i k
  named_entry i k l u low high =
      h.dictionary.dictionary.unit_columns i k l (omega (arith, u, t_long)) low (omega (arith, high, t_long)) (h.full k low high)

  pub named_low : (k : ℕ) → 1 ≤ k → k ≤ equation_count s → 1 ≤ basic_column basis k
  named_low k low high = let some : basic_column basis k ≢ 0 = h.full k low high in omega (arith, some)

  pub named_high : (k : ℕ) → 1 ≤ k → basic_column basis k ≤ unknown_count s + equation_count s
  named_high k low = let within = h.dictionary.columns.within k low in omega (arith, within)

-- a row after another one moves up
abbrev moved_up : ℕ → ℕ → ℕ
moved_up last row = row - (1 - (1 - (row - last)))

-- more columns than rows do not have a row each
pub no_more : (n : ℕ) (row : ℕ → ℕ) → ((i : ℕ) → i < suc n → row i < n) → ((i j : ℕ) → i < j → j < suc n → row i ≡ row j → ⊥) → ⊥
no_more zero row inside once = let low : row 0 < 0 = inside 0 (omega arith) in omega (arith, low)
no_more (suc n) row inside once = no_more n (λ i. moved_up (row (suc n)) (row i)) still_inside still_once
  where
    still_inside : (i : ℕ) → i < suc n → moved_up (row (suc n)) (row i) < n
    still_inside i l =
        let a = inside i (omega (arith, l)) in
        let b = inside (suc n) (omega arith) in
        let c : row i ≢ row (suc n) = once i (suc n) l (omega arith) in
        omega (arith, a, b, c)

    still_once : (i j : ℕ) → i < j → j < suc n → moved_up (row (suc n)) (row i) ≡ moved_up (row (suc n)) (row j) → ⊥
    still_once i j l u e =
        let a : row i ≢ row (suc n) = once i (suc n) (omega (arith, l, u)) (omega arith) in
        let b : row j ≢ row (suc n) = once j (suc n) u (omega arith) in
        let c : row i ≢ row j = once i j l (omega (arith, u)) in
        omega (arith, e, a, b, c)
