use Rattle.std.proofs.Common.{◌≡◌, map}
use Rattle.exact_field.specs.Rational.{◌*ℚ◌}
use Rattle.tableaux.specs.Table.{artificial_column, at, listed, second_cost, table_of}
use Rattle.lin_rows.specs.System.{system_of}
use Rattle.exact_simplex.proofs.reading.dual.Given as goal

abbrev pub invariant-loop-i : goal.invariant-loop-i
invariant-loop-i g l =
    let value = g.F.Field.value in
    let s = system_of value l.system in
    map value l.out ≡ listed l.i (λ k. at (table_of s) k (artificial_column s k) *ℚ at l.tableau.table (second_cost s) (artificial_column s k))
