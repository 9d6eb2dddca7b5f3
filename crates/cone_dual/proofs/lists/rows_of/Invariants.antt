use Rattle.std.proofs.Common.{◌≡◌, take}
use Rattle.cone_dual.proofs.lists.rows_of.Given as goal

abbrev pub invariant-loop-vector : goal.invariant-loop-vector
invariant-loop-vector g l =
    record {
      width : l.rows.width ≡ l.q;
      list : l.rows.list ≡ take l.vector-index l.vectors;
    }
