use Rattle.std.proofs.Common.{arith}
use Rattle.lin_rows.proofs.Summing.{sum_more, held_more}
use Rattle.overflows.proofs.sums.sum_of_products.Goals as goal

pub loop-i-preserved : goal.loop-i-preserved
loop-i-preserved g c =
    let value = g.F.Field.value in
    let holds = g.F.Field.holds in
    let xs = c.args.xs.now in
    let ys = c.args.ys.now in
    let i = c.loop-i.i in
    let total = value c.loop-i.total in
    record {
      sum = sum_more value holds xs ys i c.index-xs-i.result c.index-ys-i.result (omega arith) c.requires.same c.index-xs-i.is c.index-ys-i.is total (value c.in-Ok.sum)
          c.loop-i.invariant.sum c.in-Ok.ensures.ok;
      held = held_more value holds xs ys i c.index-xs-i.result c.index-ys-i.result (omega arith) c.requires.same c.index-xs-i.is c.index-ys-i.is total c.loop-i.invariant.sum
          c.loop-i.invariant.held c.in-Ok.ensures.held;
    }
