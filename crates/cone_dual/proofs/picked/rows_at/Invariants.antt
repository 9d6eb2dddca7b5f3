use Rattle.std.proofs.Common.{◌≡◌, map, take}
use Rattle.tableaux.specs.Table.{row_of}
use Rattle.lin_rows.specs.Read.{numbers}
use Rattle.cone_dual.proofs.picked.rows_at.Given as goal

abbrev pub invariant-loop-number : goal.invariant-loop-number
invariant-loop-number g l =
    let value = g.F.Field.value in
    record {
      width : l.out.width ≡ l.rows.width;
      rows : numbers value l.out.list ≡ map (row_of (numbers value l.rows.list)) (take l.number-index l.picks);
    }
