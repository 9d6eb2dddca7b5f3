use Rattle.bensolve_main.proofs.Stages.{log_halted, log_refused, log_told, log_unread, uncalled}
use Rattle.bensolve_main.proofs.prepare.with_log.Goals as goal

pub returns-in-Ok-clause-told : goal.returns-in-Ok-clause-told
returns-in-Ok-clause-told g c = log_told _ c.in-Ok.file _ _ c.log_reply.result c.in-Ok.ensures.file c.log_reply.ensures.told

pub returns-in-Ok-clause-halts : goal.returns-in-Ok-clause-halts
returns-in-Ok-clause-halts g c = log_halted c.in-Ok.file _ _ c.log_reply.result c.in-Ok.ensures.file c.log_reply.ensures.halts

pub returns-in-Err-clause-told : goal.returns-in-Err-clause-told
returns-in-Err-clause-told g c = log_refused _ c.in-Err.end _ _ c.reply_at.result c.in-Err.ensures.end (uncalled _) c.reply_at.ensures.told

pub returns-in-Err-clause-halts : goal.returns-in-Err-clause-halts
returns-in-Err-clause-halts g c = log_unread c.in-Err.end _ _ c.reply_at.result c.in-Err.ensures.end (uncalled _) c.reply_at.ensures.halts
