use Rattle.std.proofs.Common.{map, drop}
use Rattle.lin_rows.specs.Read.{numbers}
use Rattle.cone_rules.specs.Laws.{spread}
use Rattle.cone_dual.proofs.Spreading.{spread_more}
use Rattle.cone_dual.proofs.combining.spread_over.Goals as goal

pub loop-vector-preserved : goal.loop-vector-preserved
loop-vector-preserved g c =
    let value = g.F.Field.value in
    let list = map value c.args.list.now in
    let result = c.next_number-number.result in
    record {
      inside = c.next_number-number.ensures.inside;
      written = spread_more value c.args.vectors.now c.loop-vector.vector-index c.vector-item.result c.as_slice.result.now c.loop-vector.numbers c.push.new.self result.0
          (drop c.loop-vector.next list) (drop result.1 list) (spread (numbers value c.args.vectors.now) list) c.loop-vector-test.true c.vector-item.is c.as_slice.ensures.items
          c.in_ok-push.ensures.ok c.next_number-number.ensures.number c.loop-vector.invariant.written;
    }
