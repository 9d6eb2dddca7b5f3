use Rattle.std.proofs.Common.{inr}
use Rattle.commands.specs.Tasks.Task.{reconv}
use Rattle.bensolve_main.proofs.Stages.{conv_refused, conv_unread}
use Rattle.bensolve_main.proofs.converting.conv_reply.Goals as goal

pub returns-in_ok-reconv_reply-in-Ok-clause-told : goal.returns-in_ok-reconv_reply-in-Ok-clause-told
returns-in_ok-reconv_reply-in-Ok-clause-told g c = inr (c.in-Ok.bytes, c.in-Ok.ensures.bytes, c.in_ok-reconv_reply-in-Ok.ensures)

pub returns-in-Err-clause-told : goal.returns-in-Err-clause-told
returns-in-Err-clause-told g c = conv_refused reconv c.args.rep.now c.in-Err.end _ _ c.reply_at.result c.in-Err.ensures.end c.reply_at.ensures.told

pub returns-in-Err-clause-halts : goal.returns-in-Err-clause-halts
returns-in-Err-clause-halts g c = conv_unread c.in-Err.end _ _ c.reply_at.result c.in-Err.ensures.end c.reply_at.ensures.halts
