use Rattle.std.proofs.Common.{inr}
use Rattle.bensolve_main.proofs.Stages.{rep_halted, rep_refused}
use Rattle.bensolve_main.proofs.converting.one_rep.Goals as goal

pub returns-in_ok-rep_reply-in-Ok-clause-told : goal.returns-in_ok-rep_reply-in-Ok-clause-told
returns-in_ok-rep_reply-in-Ok-clause-told g c = inr (c.in-Ok.rep, c.in-Ok.ensures.rep, c.in_ok-rep_reply-in-Ok.ensures)

pub returns-in-Err-clause-told : goal.returns-in-Err-clause-told
returns-in-Err-clause-told g c = rep_refused _ c.args.logs c.in-Err.end _ _ c.reply_at.result c.in-Err.ensures.end c.reply_at.ensures.told

pub returns-in-Err-clause-halts : goal.returns-in-Err-clause-halts
returns-in-Err-clause-halts g c = rep_halted c.in-Err.end _ _ c.reply_at.result c.in-Err.ensures.end c.reply_at.ensures.halts
