use Rattle.std.proofs.Common.{◌≡◌}
use Rattle.lin_rows.specs.Read.{numbers}
use Rattle.tableaux.specs.Table.{listed, unit}
use Rattle.lower_image.proofs.spanning.unit_rows.Given as goal

abbrev pub invariant-loop-i : goal.invariant-loop-i
invariant-loop-i g l =
    record {
      width : l.rows.width ≡ l.q;
      list : numbers g.F.Field.value l.rows.list ≡ listed l.i (unit l.q);
    }
