use Rattle.std.proofs.Common.{length, ℕ, ◌≡◌, ◌<◌, ◌+◌, [], slice_index_or}
use Rattle.tableaux.specs.Table.{right_column, row_of, table_of}
use Rattle.lin_rows.specs.Lines.{lines}
use Rattle.lin_rows.specs.Read.{IsLineOf}
use Rattle.lin_rows.specs.System.{system_of}
use Rattle.exact_simplex.proofs.opening.build_table.Given as goal

abbrev pub invariant-loop-i : goal.invariant-loop-i
invariant-loop-i g l =
    let value = g.F.Field.value in
    let s = system_of value l.system in
    record {
      long : length l.rows.items ≡ l.i;
      one_each : length l.basis.items ≡ l.i;
      none : (k : ℕ) → slice_index_or l.basis.items k 0 ≡ 0;
      each : (k : ℕ) → k < l.i → IsLineOf (right_column s) (row_of (table_of s) (k + 1)) (slice_index_or (lines value l.rows.items) k []);
    }
