use Rattle.solver.proofs.Replies.{dual_solved, dual_unsolved}
use Rattle.solver.proofs.reply.dual_reply.Goals as goal

pub returns-in-Ok : goal.returns-in-Ok
returns-in-Ok c =
    dual_solved c.args.logs c.args.file.now c.in-Ok.found c.solved_reply.result
    c.in-Ok.ensures.ok c.in-Ok.ensures.named c.solved_reply.ensures.status
    c.solved_reply.ensures.report c.solved_reply.ensures.log

pub returns-in-Err : goal.returns-in-Err
returns-in-Err c =
    dual_unsolved c.args.logs c.args.file.now c.unsolved_reply.result
    (c.unsolved_reply.ensures c.args.file.now c.in-Err.ensures.end)
