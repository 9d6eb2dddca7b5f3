use Rattle.std.proofs.Common.{codes, refl, sym}
use Rattle.word_lines.proofs.Fronts.{of_name}
use Rattle.word_lines.proofs.Numerals.{same_word-true}
use Rattle.rep_text.specs.ConvText.{conv_grammar}
use Rattle.rep_text.proofs.conv_line.take_entry.Goals as goal

pub returns-then-is_word : goal.returns-then-is_word
returns-then-is_word c = of_name conv_grammar c.args.name.now (codes "conv") c.args.words.now c.take_conv.new.words c.take_conv.result c.if-is_word.ensures c.take_conv.ensures

pub returns-then-is_word-2 : goal.returns-then-is_word-2
returns-then-is_word-2 c = of_name conv_grammar c.args.name.now (codes "line") c.args.words.now c.take_line.new.words c.take_line.result c.if-is_word-2.ensures c.take_line.ensures

pub returns-then-is_word-3 : goal.returns-then-is_word-3
returns-then-is_word-3 c = of_name conv_grammar c.args.name.now (codes "start") c.args.words.now c.take_start.new.words c.take_start.result c.if-is_word-3.ensures c.take_start.ensures

pub returns-then-is_word-4 : goal.returns-then-is_word-4
returns-then-is_word-4 c = of_name conv_grammar c.args.name.now (codes "add") c.args.words.now c.take_add.new.words c.take_add.result c.if-is_word-4.ensures c.take_add.ensures

pub returns-then-is_word-5 : goal.returns-then-is_word-5
returns-then-is_word-5 c = (refl, sym (same_word-true c.args.name.now (codes "end") (sym c.if-is_word-5.ensures)), refl)
