-- A pivot at the row that the ratio test found keeps the rows of the equations lexicographically positive.
use Rattle.std.proofs.Common.{◌≡◌, ◌≢◌, ℕ, List, length, arith, ◌<◌, ◌≤◌, ◌+◌, Some, subst, sym, slice_index_or}
use Rattle.std.specs.Prelude.{◌==◌, if◌then◌else◌}
use Rattle.exact_field.specs.Rational.{ℚ, zero_ℚ, one_ℚ, ◌<ℚ◌}
use Rattle.polyhedra.specs.Vectors.{AreWide}
use Rattle.polyhedra.specs.Sparse.{Entry}
use Rattle.tableaux.specs.Table.{Table, row_of, at, pivoted}
use Rattle.tableaux.specs.Dictionary.{basic_column}
use Rattle.tableaux.specs.Lex.{IsLexPositive, entries_at}
use Rattle.tableaux.proofs.Matrix.{HasMatrix}
use Rattle.tableaux.proofs.Turns.{turn_positive, no_tie}
use Rattle.lin_rows.specs.Lines.{AreLines}
use Rattle.lin_rows.specs.Pivot.{table_of}
use Rattle.lin_rows.proofs.Pivoted.{at_is, length-table}
use Rattle.exact_simplex.specs.Phase.{AreColumns}
use Rattle.exact_simplex.specs.Ratios.{IsLeaving}
use Rattle.exact_simplex.proofs.Strict.{leaving_strict}

pub positive_kept : (n : ℕ) (start : Table) (first basis : List ℕ) (ls : List (List Entry)) (m : Table) (col : ℕ) (columns : List ℕ) (equations r : ℕ) → AreWide n start →
    HasMatrix n start basis (table_of n ls) m → AreLines n ls → 1 ≤ col → col ≤ n → AreColumns n columns →
    ((i k : ℕ) → 1 ≤ i → i ≤ length start → 1 ≤ k → k ≤ length start → basic_column basis k ≢ 0 → at start i (basic_column first k) ≡ (if i == k then one_ℚ else zero_ℚ)) →
    ((k : ℕ) → 1 ≤ k → k ≤ length start → basic_column basis k ≢ 0 → (j : ℕ) × (j < length columns) × (slice_index_or columns j 0 ≡ basic_column first k)) →
    equations ≤ length start → ((i : ℕ) → i < equations → basic_column basis (i + 1) ≢ 0) → IsLeaving ls col columns equations (Some r) →
    ((i : ℕ) → i < equations → IsLexPositive (entries_at columns (row_of (table_of n ls) (i + 1)))) →
    (i : ℕ) → i < equations → IsLexPositive (entries_at columns (row_of (pivoted (table_of n ls) (r + 1) col) (i + 1)))
positive_kept n start first basis ls m col columns equations r wide h lines col_low col_high within units listed_at high full least positive i l =
    let d : Table = table_of n ls in
    let inside : equations ≤ length ls = omega (arith, high, h.d_many, length-table n ls lines) in
    let up : zero_ℚ <ℚ at d (r + 1) col =
    subst (λ (q : ℚ). zero_ℚ <ℚ q) (sym (at_is n ls lines r col (omega (arith, least.0, inside)) col_low col_high)) least.1 in
    turn_positive n d h.d_wide columns (r + 1) col (omega arith) (omega (arith, least.0, high, h.d_many)) up (i + 1) (omega arith)
    (omega (arith, l, high, h.d_many)) (positive r least.0) (positive i l)
    (λ other up_i. leaving_strict n ls lines col columns equations r i col_low col_high within inside least l
    (λ tie. no_tie n start first basis d m columns (i + 1) (r + 1) (at d (r + 1) col) (at d (i + 1) col) wide h units listed_at
    (omega arith) (omega (arith, l, high)) (omega arith) (omega (arith, least.0, high)) other (full i l) (full r least.0) up_i tie) up_i)
