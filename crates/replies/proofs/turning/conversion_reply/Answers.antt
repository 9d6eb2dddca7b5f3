use Rattle.std.proofs.Common.{subst}
use Rattle.frac128.specs.Held.{is_held}
use Rattle.rep_convert.specs.Licensed.{IsConvLeft}
use Rattle.replies.proofs.ConversionsTold.{stopped_told}
use Rattle.replies.proofs.turning.conversion_reply.Goals as goal

pub returns-in-Err-Left : goal.returns-in-Err-Left
returns-in-Err-Left c =
    stopped_told c.args.logs c.args.rep.now c.in-Err-Left.licence c.fault_reply.result
    (subst (IsConvLeft is_held c.args.rep.now) c.in-Err-Left.field-0-is c.in-Err-Left.ensures.left)
    c.fault_reply.ensures.held c.fault_reply.ensures.status c.fault_reply.ensures.told
