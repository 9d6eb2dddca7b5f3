use Rattle.std.proofs.Common.{codes, refl, sym, ◌∙◌}
use Rattle.word_lines.proofs.Numerals.{same_word-true}
use Rattle.rep_text.proofs.RowRead.{row_taken}
use Rattle.rep_text.proofs.reader.take_row.Goals as goal

pub returns-then-is_word : goal.returns-then-is_word
returns-then-is_word c = (same_word-true c.args.name.now (codes "end") (sym c.if-is_word.ensures), refl)

pub returns : goal.returns
returns c =
    let items = c.in_ok-v.ensures in
    row_taken c.args.head c.args.name.now c.args.words.now c.take_items.new.words c.in-Some.kind c.in_ok-v.v (sym c.row_kind.ensures ∙ c.in-Some.is) (items.0 ∙ c.row_length.ensures, items.1, items.2)
