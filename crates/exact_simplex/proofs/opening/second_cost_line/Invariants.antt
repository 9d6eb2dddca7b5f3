use Rattle.tableaux.specs.Table.{right_column, row_of, second_cost, table_of}
use Rattle.lin_rows.specs.Lines.{entries}
use Rattle.lin_rows.specs.System.{system_of}
use Rattle.exact_simplex.proofs.SystemLines.{IsLineTo}
use Rattle.exact_simplex.proofs.opening.second_cost_line.Given as goal

abbrev pub invariant-loop-i : goal.invariant-loop-i
invariant-loop-i g l =
    let s = system_of g.F.Field.value l.system in
    IsLineTo (right_column s) l.i (row_of (table_of s) (second_cost s)) (entries g.F.Field.value l.line.items)
