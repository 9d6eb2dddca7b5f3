use Rattle.std.proofs.Common.{codes, sym}
use Rattle.word_lines.proofs.Numerals.{same_word-true}
use Rattle.rep_text.proofs.reader.head_kind.Goals as goal

pub returns-then-is_word : goal.returns-then-is_word
returns-then-is_word c = same_word-true c.args.name.now (codes "sides") (sym c.if-is_word.ensures)

pub returns-then-is_word-2 : goal.returns-then-is_word-2
returns-then-is_word-2 c = same_word-true c.args.name.now (codes "gens") (sym c.if-is_word-2.ensures)
