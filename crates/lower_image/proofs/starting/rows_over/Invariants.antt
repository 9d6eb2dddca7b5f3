use Rattle.std.proofs.Common.{◌≡◌, suc, map, take}
use Rattle.lin_rows.specs.Read.{numbers}
use Rattle.lower_image.specs.Starting.{first_rows}
use Rattle.lower_image.proofs.starting.rows_over.Given as goal

abbrev pub invariant-loop-k : goal.invariant-loop-k
invariant-loop-k g l =
    let value = g.F.Field.value in
    record {
      width : l.rows.width ≡ suc g.task.file.objs;
      list : numbers value l.rows.list ≡ first_rows g.task.file g.task.c (map value l.x) (take l.k (numbers value l.directions.list));
    }
