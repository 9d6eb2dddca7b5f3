use Rattle.std.proofs.Common.{arith}
use Rattle.incid_sets.proofs.Sets.{none_but, one_more_but}
use Rattle.incid_sets.proofs.marks.Marks.all_but.Goals as goal

pub widen-requires : goal.widen-requires
widen-requires c = omega (arith, c.loop-k.invariant.bounded, c.loop-k-test.true)

pub loop-k-init : goal.loop-k-init
loop-k-init c = none_but c.args.out c.in_ok-marks.marks c.in_ok-marks.ensures

pub loop-k-preserved : goal.loop-k-preserved
loop-k-preserved c = one_more_but c.loop-k.k c.args.out c.loop-k.marks c.widen.new.self c.loop-k.invariant c.in_ok-widen.ensures.ok
