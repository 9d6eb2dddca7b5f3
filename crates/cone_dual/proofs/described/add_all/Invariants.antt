use Rattle.std.proofs.Common.{◌≡◌, ◌++◌, take}
use Rattle.lin_rows.specs.Read.{numbers}
use Rattle.overflows.specs.Generators.{IsMadeOver}
use Rattle.cone_dual.proofs.described.add_all.Given as goal

abbrev pub invariant-loop-k : goal.invariant-loop-k
invariant-loop-k g l =
    let value = g.F.Field.value in
    record {
      width : l.dd.width ≡ l.initial.dd.width;
      rows : l.dd.rows ≡ l.initial.dd.rows ++ take l.k (numbers value l.rows.list);
      made : IsMadeOver l.initial.dd.width l.dd.rows l.dd.list;
    }
