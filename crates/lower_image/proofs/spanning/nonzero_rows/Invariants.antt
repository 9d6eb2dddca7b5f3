use Rattle.std.proofs.Common.{◌≡◌, take}
use Rattle.lin_rows.specs.Read.{numbers}
use Rattle.cone_rules.proofs.Rows.{kept}
use Rattle.lower_image.proofs.spanning.nonzero_rows.Given as goal

abbrev pub invariant-loop-vector : goal.invariant-loop-vector
invariant-loop-vector g l =
    let value = g.F.Field.value in
    record {
      width : l.rows.width ≡ l.q;
      list : numbers value l.rows.list ≡ kept (numbers value (take l.vector-index l.vectors));
    }
