use Rattle.std.proofs.Common.{inr}
use Rattle.vlp_reader.proofs.SomeProblem.{read_within}
use Rattle.bensolve_main.proofs.Stages.{second_refused, unread}
use Rattle.bensolve_main.proofs.prepare.second_text.Goals as goal

pub two_reply-requires-clause-second_sizes : goal.two_reply-requires-clause-second_sizes
two_reply-requires-clause-second_sizes g c = read_within c.in-Ok.ensures.file.bytes c.in-Ok.second c.in-Ok.ensures.file.reads

pub returns-in_ok-two_reply-in-Ok-clause-told : goal.returns-in_ok-two_reply-in-Ok-clause-told
returns-in_ok-two_reply-in-Ok-clause-told g c = inr (inr (c.in-Ok.second, c.in-Ok.ensures.file, c.in_ok-two_reply-in-Ok.ensures))

pub returns-in-Err-clause-told : goal.returns-in-Err-clause-told
returns-in-Err-clause-told g c = second_refused _ c.args.first.now c.in-Err.end _ _ c.reply_at.result c.in-Err.ensures.end c.reply_at.ensures.told

pub returns-in-Err-clause-halts : goal.returns-in-Err-clause-halts
returns-in-Err-clause-halts g c = unread _ c.in-Err.end _ _ c.reply_at.result c.in-Err.ensures.end c.reply_at.ensures.halts
