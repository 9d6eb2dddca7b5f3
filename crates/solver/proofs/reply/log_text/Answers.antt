use Rattle.solver.proofs.Upgraded.{logged}
use Rattle.solver.proofs.reply.log_text.Goals as goal

pub returns-in_ok-text : goal.returns-in_ok-text
returns-in_ok-text c =
    logged c.args.file.now c.args.solution.now c.requires c.args.logs c.in_ok-text.text
    c.if-logs.true c.in_ok-text.ensures
