use Rattle.std.proofs.Common.{sym, ◌∙◌, arith}
use Rattle.commands.proofs.NumberWords.{same_number, not_parsed, other_number}
use Rattle.commands.proofs.numbers.number_of.Goals as goal

pub returns-in_default : goal.returns-in_default
returns-in_default c = not_parsed c.args.most c.args.word.now c.parse.result _ (omega arith) c.parse.ensures.value.0 c.in_default.is

pub returns-then-is_word_of : goal.returns-then-is_word_of
returns-then-is_word_of c = same_number c.args.most c.args.word.now c.in-Ok.number (omega arith) (sym c.is_word_of.ensures ∙ c.if-is_word_of.true)

pub returns-else-is_word_of : goal.returns-else-is_word_of
returns-else-is_word_of c =
    other_number c.args.most c.args.word.now c.parse.result c.in-Ok.number (omega arith) c.parse.ensures.value.0 c.in-Ok.is (sym c.is_word_of.ensures ∙ c.if-is_word_of.false)
