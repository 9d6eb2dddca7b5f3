use Rattle.std.proofs.Common.{◌∙◌, sym}
use Rattle.replies.proofs.WeightVerdicts.{verdict_counted, verdict_weighed, verdict_unsolved}
use Rattle.replies.proofs.weights.weigh_reply.Goals as goal

pub returns-then-len-file : goal.returns-then-len-file
returns-then-len-file c =
    verdict_counted c.args.word.now c.in_ok-weights.weights c.args.file.now c.counted_reply.result c.in_ok-weights.ensures c.counted_reply.ensures

pub returns-in-Ok : goal.returns-in-Ok
returns-in-Ok c =
    verdict_weighed c.args.word.now c.in_ok-weights.weights c.args.file.now c.weighed_reply.result c.in_ok-weights.ensures
    (sym c.len.ensures.value ∙ c.if-len-file.false) c.weighed_reply.ensures

pub returns : goal.returns
returns c =
    verdict_unsolved c.args.word.now c.in_ok-weights.weights c.args.file.now c.unsolved_reply.result c.in_ok-weights.ensures
    (sym c.len.ensures.value ∙ c.if-len-file.false) (c.unsolved_reply.ensures c.args.file.now c.in-Err.ensures.end)
