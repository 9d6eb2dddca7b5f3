use Rattle.std.proofs.Common.{◌≡◌, take, map}
use Rattle.lin_rows.specs.Read.{numbers}
use Rattle.tableaux.specs.Table.{row_of}
use Rattle.cone_dual.proofs.lists.picked_rows.Given as goal

abbrev pub invariant-loop-k : goal.invariant-loop-k
invariant-loop-k g l =
    let value = g.F.Field.value in
    record {
      width : l.rows.width ≡ l.q;
      list : numbers value l.rows.list ≡ map (row_of (numbers value l.vectors)) (take l.k-index l.picks);
    }
