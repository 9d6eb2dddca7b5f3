use Rattle.std.proofs.Common.{arith}
use Rattle.lin_rows.proofs.Summing.{sums_more, sums_held_more, plus_all}
use Rattle.lin_rows.proofs.sums.combine.Goals as goal

pub loop-i-preserved : goal.loop-i-preserved
loop-i-preserved g c =
    let value = g.F.Field.value in
    let holds = g.F.Field.holds in
    let a = c.args.a.now in
    let b = c.args.b.now in
    let i = c.loop-i.i in
    record {
      sums = sums_more value holds a b i c.index-a-i.result c.index-b-i.result (omega arith) c.requires.same c.index-a-i.is c.index-b-i.is (value c.args.k) c.loop-i.out c.push.new.self
          c.in-Ok.sum c.in_ok-push-in-Ok.ensures.ok c.loop-i.invariant.sums c.in-Ok.ensures.ok;
      held = sums_held_more value holds a b i c.index-a-i.result c.index-b-i.result (omega arith) c.requires.same c.index-a-i.is c.index-b-i.is (value c.args.k) c.loop-i.invariant.held
          c.in-Ok.ensures.held;
    }

pub returns-clause-ok : goal.returns-clause-ok
returns-clause-ok g c =
    plus_all g.F.Field.value g.F.Field.holds c.args.a.now c.args.b.now c.loop-i.i (g.F.Field.value c.args.k) c.loop-i.out c.requires.same (omega arith) c.loop-i.invariant.sums
