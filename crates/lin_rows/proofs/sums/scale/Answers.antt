use Rattle.std.proofs.Common.{arith}
use Rattle.lin_rows.proofs.Summing.{products_more, products_held_more}
use Rattle.lin_rows.proofs.sums.scale.Goals as goal

pub loop-i-preserved : goal.loop-i-preserved
loop-i-preserved g c =
    let value = g.F.Field.value in
    let holds = g.F.Field.holds in
    let a = c.args.a.now in
    let i = c.loop-i.i in
    record {
      products = products_more value holds a i c.index-a-i.result (omega arith) c.index-a-i.is (value c.args.k) c.loop-i.out c.push.new.self c.in-Ok.product c.in_ok-push-in-Ok.ensures.ok
          c.loop-i.invariant.products c.in-Ok.ensures.ok;
      held = products_held_more value holds a i c.index-a-i.result (omega arith) c.index-a-i.is (value c.args.k) c.loop-i.invariant.held c.in-Ok.ensures.held;
    }
