use Rattle.std.proofs.Common.{◌≡◌, ◌≤◌, ◌++◌, length, map, drop}
use Rattle.lin_rows.specs.Read.{numbers}
use Rattle.cone_rules.specs.Laws.{spread}
use Rattle.cone_dual.proofs.combining.spread_over.Given as goal

abbrev pub invariant-loop-vector : goal.invariant-loop-vector
invariant-loop-vector g l =
    let value = g.F.Field.value in
    record {
      inside : l.next ≤ length l.list;
      written : map value l.numbers ++ spread (drop l.vector-index (numbers value l.vectors)) (drop l.next (map value l.list))
          ≡ spread (numbers value l.vectors) (map value l.list);
    }
