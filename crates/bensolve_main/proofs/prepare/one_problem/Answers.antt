use Rattle.std.proofs.Common.{inr}
use Rattle.vlp_printer.proofs.ReadWords.{words_read}
use Rattle.vlp_reader.proofs.SomeProblem.{read_within}
use Rattle.bensolve_main.proofs.Stages.{file_refused, unread}
use Rattle.bensolve_main.proofs.prepare.one_problem.Goals as goal

pub file_reply-requires-clause-sizes : goal.file_reply-requires-clause-sizes
file_reply-requires-clause-sizes g c = read_within c.in-Ok.ensures.file.bytes c.in-Ok.file c.in-Ok.ensures.file.reads

pub file_reply-requires-clause-words : goal.file_reply-requires-clause-words
file_reply-requires-clause-words g c = words_read c.in-Ok.ensures.file.bytes c.in-Ok.file c.in-Ok.ensures.file.reads

pub returns-in_ok-file_reply-in-Ok-clause-told : goal.returns-in_ok-file_reply-in-Ok-clause-told
returns-in_ok-file_reply-in-Ok-clause-told g c = inr (c.in-Ok.file, c.in-Ok.ensures.file, c.in_ok-file_reply-in-Ok.ensures)

pub returns-in-Err-clause-told : goal.returns-in-Err-clause-told
returns-in-Err-clause-told g c = file_refused _ c.args.logs c.in-Err.end _ _ c.reply_at.result c.in-Err.ensures.end c.reply_at.ensures.told

pub returns-in-Err-clause-halts : goal.returns-in-Err-clause-halts
returns-in-Err-clause-halts g c = unread _ c.in-Err.end _ _ c.reply_at.result c.in-Err.ensures.end c.reply_at.ensures.halts
