use Rattle.vlp_reader.proofs.SomeProblem.{read_within}
use Rattle.bensolve_main.proofs.Stages.{two_halted, two_refused, two_told, two_unread, uncalled}
use Rattle.bensolve_main.proofs.prepare.two_texts.Goals as goal

pub second_text-requires-clause-sizes : goal.second_text-requires-clause-sizes
second_text-requires-clause-sizes g c = read_within c.in-Ok.ensures.file.bytes c.in-Ok.first c.in-Ok.ensures.file.reads

pub returns-in-Ok-clause-told : goal.returns-in-Ok-clause-told
returns-in-Ok-clause-told g c = two_told _ c.in-Ok.first _ _ c.second_text.result c.in-Ok.ensures.file c.second_text.ensures.told

pub returns-in-Ok-clause-halts : goal.returns-in-Ok-clause-halts
returns-in-Ok-clause-halts g c = two_halted c.in-Ok.first _ _ c.second_text.result c.in-Ok.ensures.file c.second_text.ensures.halts

pub returns-in-Err-clause-told : goal.returns-in-Err-clause-told
returns-in-Err-clause-told g c = two_refused _ c.in-Err.end _ _ c.reply_at.result c.in-Err.ensures.end (uncalled _) c.reply_at.ensures.told

pub returns-in-Err-clause-halts : goal.returns-in-Err-clause-halts
returns-in-Err-clause-halts g c = two_unread c.in-Err.end _ _ c.reply_at.result c.in-Err.ensures.end (uncalled _) c.reply_at.ensures.halts
