use Rattle.solver.proofs.Replies.{unsolved_verdict}
use Rattle.solver.proofs.reply.solve_reply.Goals as goal

pub returns-in-Err : goal.returns-in-Err
returns-in-Err c =
    unsolved_verdict c.args.logs c.args.file.now c.unsolved_reply.result (c.unsolved_reply.ensures c.args.file.now c.in-Err.ensures.end)
