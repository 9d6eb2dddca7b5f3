use Rattle.std.proofs.Common.{arith}
use Rattle.rep_conv.proofs.Taken.{all_taken, none_taken}
use Rattle.rep_conv.proofs.check.check_entries.Goals as goal

pub loop-i-init : goal.loop-i-init
loop-i-init c = none_taken c.args.rep.now c.args.log.now c.in_ok-standing.standing c.in_ok-standing.ensures

pub returns-clause-ok : goal.returns-clause-ok
returns-clause-ok c = all_taken c.args.rep.now c.args.log.now c.loop-i.i c.loop-i.standing (omega arith) c.loop-i.invariant
