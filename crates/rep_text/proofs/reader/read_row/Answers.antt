use Rattle.std.proofs.Common.{sym, ◌∙◌}
use Rattle.rep_text.proofs.RowRead.{row_too_long, row_read}
use Rattle.rep_text.proofs.reader.read_row.Goals as goal

pub returns-in-Some-next : goal.returns-in-Some-next
returns-in-Some-next c =
    row_too_long c.args.head c.args.text.now c.in-Some.name.now c.next.new.self c.take_row.new.words c.in-Some-next.field-0.now c.next-2.new.self c.in_ok-row.row
    (sym c.if-has_empty_word.ensures) (sym c.of-words.ensures ∙ c.in-Some.ensures) c.in_ok-row.ensures c.in-Some-next.ensures

pub returns-in-None : goal.returns-in-None
returns-in-None c =
    row_read c.args.head c.args.text.now c.in-Some.name.now c.next.new.self c.take_row.new.words c.in_ok-row.row (sym c.of-words.ensures ∙ c.in-Some.ensures) c.in_ok-row.ensures c.in-None.ensures.0
