use Rattle.std.proofs.Common.{codes}
use Rattle.word_lines.proofs.Fronts.{of_name}
use Rattle.deriv_log.specs.LogGrammar.{log_grammar}
use Rattle.deriv_log.proofs.line.take_second.Goals as goal

pub returns-then-is_word : goal.returns-then-is_word
returns-then-is_word c = of_name log_grammar c.args.name.now (codes "addh") c.args.words.now c.take_addh.new.words c.take_addh.result c.if-is_word.ensures c.take_addh.ensures

pub returns-then-is_word-2 : goal.returns-then-is_word-2
returns-then-is_word-2 c = of_name log_grammar c.args.name.now (codes "cutof") c.args.words.now c.take_cutof.new.words c.take_cutof.result c.if-is_word-2.ensures c.take_cutof.ensures

pub returns-then-is_word-3 : goal.returns-then-is_word-3
returns-then-is_word-3 c = of_name log_grammar c.args.name.now (codes "pointof") c.args.words.now c.take_pointof.new.words c.take_pointof.result c.if-is_word-3.ensures c.take_pointof.ensures

pub returns-then-is_word-4 : goal.returns-then-is_word-4
returns-then-is_word-4 c = of_name log_grammar c.args.name.now (codes "rayof") c.args.words.now c.take_rayof.new.words c.take_rayof.result c.if-is_word-4.ensures c.take_rayof.ensures

pub returns-then-is_word-5 : goal.returns-then-is_word-5
returns-then-is_word-5 c = of_name log_grammar c.args.name.now (codes "share") c.args.words.now c.take_share.new.words c.take_share.result c.if-is_word-5.ensures c.take_share.ensures
