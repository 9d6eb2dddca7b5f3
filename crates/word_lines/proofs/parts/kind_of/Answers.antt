use Rattle.std.proofs.Common.{sym, codes}
use Rattle.word_lines.proofs.Numerals.{same_word-true}
use Rattle.word_lines.proofs.parts.kind_of.Goals as goal

pub returns-then-is_word : goal.returns-then-is_word
returns-then-is_word c = same_word-true c.args.word.now (codes "infeasible") (sym c.if-is_word.ensures)

pub returns-then-is_word-2 : goal.returns-then-is_word-2
returns-then-is_word-2 c = same_word-true c.args.word.now (codes "whole") (sym c.if-is_word-2.ensures)

pub returns-then-is_word-3 : goal.returns-then-is_word-3
returns-then-is_word-3 c = same_word-true c.args.word.now (codes "novertex") (sym c.if-is_word-3.ensures)

pub returns-then-is_word-4 : goal.returns-then-is_word-4
returns-then-is_word-4 c = same_word-true c.args.word.now (codes "solved") (sym c.if-is_word-4.ensures)
