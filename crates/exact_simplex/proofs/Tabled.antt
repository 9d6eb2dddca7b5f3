-- The tableau of the table of a program.
use Rattle.std.proofs.Common.{◌≡◌, ℕ, List, [], length, sym, refl, ap, ◌∙◌, subst, arith, ◌<◌, ◌+◌, slice_index_or, false}
use Rattle.std.specs.declared.alloc.Global.{Global}
use Rattle.std.specs.declared.vec.Vec.{Vec}
use Rattle.exact_field.specs.Rational.{ℚ}
use Rattle.tableaux.specs.Table.{Table, System, IsSystem, row_of, table_of, right_column}
use Rattle.tableaux.specs.Dictionary.{basic_column, IsDictionary}
use Rattle.tableaux.proofs.Eliminated.{starts}
use Rattle.tableaux.proofs.Entries.{table-long, table-wide}
use Rattle.lin_rows.specs.declared.spots.Spot.{Spot}
use Rattle.lin_rows.specs.declared.system.System.{System as Program}
use Rattle.lin_rows.specs.Tableau.{Dictionary}
use Rattle.lin_rows.specs.Lines.{Rises, lines}
use Rattle.lin_rows.specs.Pivot.{AreTableau, table_of as table_of_lines}
use Rattle.lin_rows.specs.Read.{IsLineOf}
use Rattle.lin_rows.proofs.Building.{table_is}
use Rattle.lin_rows.proofs.ManyLines.{length-lines}
use Rattle.exact_simplex.specs.Program.{IsUnopened}
use Rattle.lin_rows.specs.System.{HasLengths, system_of}
use Rattle.exact_simplex.proofs.Programs.{system_ok, equation_count_is, right_column_is}
use Rattle.exact_simplex.proofs.SystemLines.{row_long}

module _ {F : Type 0} (value : F → ℚ) (p : Program F) (lengths : HasLengths p) where
  abbrev s : System
  s = system_of value p

  ok : IsSystem s
  ok = system_ok value p lengths

  -- the tableau of such lines
  module _ (rows : List (Vec (Spot F) Global)) (basis : List ℕ) (many : length rows ≡ p.rows + 2) (basis_many : length basis ≡ p.rows + 2) (small : p.cols + p.rows < 4294967293)
      (none : (i : ℕ) → slice_index_or basis i 0 ≡ 0)
      (each : (i : ℕ) → i < p.rows + 2 → IsLineOf (right_column s) (row_of (table_of s) (i + 1)) (slice_index_or (lines value rows) i [])) where
    pub unopened_rows : AreTableau (p.cols + p.rows + 1) (lines value rows) basis
    unopened_rows =
        let size = length-lines value rows in
        record {
          lines = record {
            rise = λ i l. subst (λ (n : ℕ). Rises n 0 (slice_index_or (lines value rows) i [])) (right_column_is value p lengths) (each i (omega (arith, l, size, many))).rises;
          };
          one_each = omega (arith, size, many, basis_many);
          numbered = omega (arith, size, many, small);
        }

    pub unopened_is : (t : Dictionary) → t ≡ record { width = p.cols + p.rows + 1; table = table_of_lines (p.cols + p.rows + 1) (lines value rows); basis = basis } → IsUnopened s t
    unopened_is t is =
        let n : ℕ = right_column s in
        let m_is = equation_count_is value p lengths in
        let size = length-lines value rows in
        let width : p.cols + p.rows + 1 ≡ n = sym (right_column_is value p lengths) in
        let empty : (i : ℕ) → basic_column basis i ≡ 0 = λ i. none _ in
        let table : table_of_lines (p.cols + p.rows + 1) (lines value rows) ≡ table_of s =
        ap (λ k. table_of_lines k (lines value rows)) width
        ∙ table_is false (table_of s) n n (lines value rows) refl (omega (arith, size, many, table-long s ok, m_is)) (λ i l. row_long s ok (i + 1) (omega arith) (omega (arith, l, table-long s ok)))
        (λ i l. each i (omega (arith, l, table-long s ok, m_is))) in
        subst (IsUnopened s) (sym is) (record {
          held = record {
            width = width;
            one_each = omega (arith, basis_many, ap length table, table-long s ok, m_is);
            dictionary = record {
              columns = record { within = λ i l. let e = empty i in omega (arith, e); equations_only = λ i l. empty i };
              dictionary = subst (λ (d : Table). IsDictionary n (table_of s) basis d) (sym table) (starts n (table_of s) basis (table-wide s ok) empty);
            };
          };
          table = table;
          empty = empty;
        })
