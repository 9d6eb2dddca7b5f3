use Rattle.bensolve_main.proofs.Stages.{uncalled, with_conv_halted, with_conv_told, with_rep_refused, with_rep_unread}
use Rattle.bensolve_main.proofs.converting.with_conv.Goals as goal

pub returns-in-Ok-clause-told : goal.returns-in-Ok-clause-told
returns-in-Ok-clause-told g c = with_conv_told c.in-Ok.rep _ _ c.conv_reply.result c.in-Ok.ensures.rep c.conv_reply.ensures.told

pub returns-in-Ok-clause-halts : goal.returns-in-Ok-clause-halts
returns-in-Ok-clause-halts g c = with_conv_halted c.in-Ok.rep _ _ c.conv_reply.result c.in-Ok.ensures.rep c.conv_reply.ensures.halts

pub returns-in-Err-clause-told : goal.returns-in-Err-clause-told
returns-in-Err-clause-told g c = with_rep_refused c.in-Err.end _ _ c.reply_at.result c.in-Err.ensures.end (uncalled _) c.reply_at.ensures.told

pub returns-in-Err-clause-halts : goal.returns-in-Err-clause-halts
returns-in-Err-clause-halts g c = with_rep_unread c.in-Err.end _ _ c.reply_at.result c.in-Err.ensures.end (uncalled _) c.reply_at.ensures.halts
