use Rattle.std.proofs.Common.{codes}
use Rattle.word_lines.proofs.Fronts.{of_name}
use Rattle.deriv_log.specs.LogGrammar.{log_grammar}
use Rattle.deriv_log.proofs.line.take_answer.Goals as goal

pub returns-then-is_word : goal.returns-then-is_word
returns-then-is_word c = of_name log_grammar c.args.name.now (codes "end") c.args.words.now c.take_end.new.words c.take_end.result c.if-is_word.ensures c.take_end.ensures

pub returns-then-is_word-2 : goal.returns-then-is_word-2
returns-then-is_word-2 c = of_name log_grammar c.args.name.now (codes "farkas") c.args.words.now c.take_farkas.new.words c.take_farkas.result c.if-is_word-2.ensures c.take_farkas.ensures

pub returns-then-is_word-3 : goal.returns-then-is_word-3
returns-then-is_word-3 c = of_name log_grammar c.args.name.now (codes "whole") c.args.words.now c.take_whole.new.words c.take_whole.result c.if-is_word-3.ensures c.take_whole.ensures

pub returns-then-is_word-4 : goal.returns-then-is_word-4
returns-then-is_word-4 c = of_name log_grammar c.args.name.now (codes "line") c.args.words.now c.take_line.new.words c.take_line.result c.if-is_word-4.ensures c.take_line.ensures
