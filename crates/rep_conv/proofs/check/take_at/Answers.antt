use Rattle.std.proofs.Common.{arith, take}
use Rattle.log_live.proofs.LivePairs.{length-take_to}
use Rattle.rep_conv.proofs.Taken.{one_taken}
use Rattle.rep_conv.proofs.check.take_at.Goals as goal

pub take-requires : goal.take-requires
take-requires c = (take c.args.i c.args.log.now, c.requires.taken.stands, length-take_to c.args.i c.args.log.now (omega arith))

pub returns-in-Ok-clause-ok : goal.returns-in-Ok-clause-ok
returns-in-Ok-clause-ok c =
    let inside = c.requires.inside in
    let ran = c.in-Ok.ensures (take c.args.i c.args.log.now) c.requires.taken.stands (length-take_to c.args.i c.args.log.now (omega (arith, inside))) in
    one_taken c.args.rep.now c.args.log.now c.args.i c.args.standing.now c.index-log-i.result c.requires.taken inside c.index-log-i.is c.take.new.self ran.0 ran.2

pub returns-in-Err-clause-err : goal.returns-in-Err-clause-err
returns-in-Err-clause-err c =
    let inside = c.requires.inside in
    c.refusal.ensures c.args.rep.now c.args.log.now c.args.i c.args.standing.now c.index-log-i.result c.requires.taken inside c.index-log-i.is (omega arith)
    (c.in-Err.ensures (take c.args.i c.args.log.now) c.requires.taken.stands (length-take_to c.args.i c.args.log.now (omega (arith, inside))))
