use Rattle.std.proofs.Common.{arith}
use Rattle.src_sink.proofs.Taking.{Appends-more}
use Rattle.src_sink.proofs.whole.write_all.Goals as goal

pub loop-sent-preserved : goal.loop-sent-preserved
loop-sent-preserved g c = record {
  within = omega (arith, c.in-Ok.ensures.within);
  appended = Appends-more _ _ _ c.args.bytes.now c.loop-sent.sent c.in-Ok.count c.loop-sent.invariant.appended c.in-Ok.ensures.appended;
  count = omega (arith, c.in-Ok.ensures.count);
}
