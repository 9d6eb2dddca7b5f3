use Rattle.std.proofs.Common.{◌≡◌, map}
use Rattle.lin_rows.specs.Lines.{entries, sum_at}
use Rattle.tableaux.specs.Table.{listed}
use Rattle.lower_image.proofs.rows.numbers_of.Given as goal

abbrev pub invariant-loop-j : goal.invariant-loop-j
invariant-loop-j g l =
    let value = g.F.Field.value in
    map value l.list ≡ listed l.j (sum_at (entries value l.line))
