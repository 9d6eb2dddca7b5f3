use Rattle.replies.proofs.WeightVerdicts.{sets_told, sets_unsolved}
use Rattle.replies.proofs.weights.weights_reply.Goals as goal

pub returns-in-Ok : goal.returns-in-Ok
returns-in-Ok c = sets_told c.args.file.now c.told_reply.result (c.told_reply.ensures c.args.file.now c.in-Ok.ensures.ok)

pub returns-in-Err : goal.returns-in-Err
returns-in-Err c = sets_unsolved c.args.file.now c.unsolved_reply.result (c.unsolved_reply.ensures c.args.file.now c.in-Err.ensures.end)
