use Rattle.std.proofs.Common.{◌≡◌, take}
use Rattle.polyhedra.specs.LiveList.{vectors}
use Rattle.lin_rows.specs.Read.{numbers}
use Rattle.cone_dual.proofs.dual.generators_of.Given as goal

abbrev pub invariant-loop-number : goal.invariant-loop-number
invariant-loop-number g l =
    let value = g.F.Field.value in
    record {
      width : l.out.width ≡ l.width;
      rows : numbers value l.out.list ≡ take l.number-index (vectors l.dd.list.live);
    }
