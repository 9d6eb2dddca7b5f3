use Rattle.std.proofs.Common.{sym, ◌∙◌, ◌==◌}
use Rattle.std.specs.List.{slice_split}
use Rattle.word_lines.proofs.Fronts.{too_long, all_words}
use Rattle.word_lines.proofs.line.line_entry.Goals as goal

pub returns-in-Some-next : goal.returns-in-Some-next
returns-in-Some-next g c =
    too_long g.E.LineEntry.grammar (slice_split (λ b. b == 32) c.args.text.now) c.in-Some.name.now c.next.new.self c.take.new.words c.in-Some-next.field-0.now c.next-2.new.self c.in_ok-entry.entry
    (sym c.if-has_empty_word.ensures) (sym c.of-words.ensures ∙ c.in-Some.ensures) c.in_ok-entry.ensures c.in-Some-next.ensures

pub returns-in-None : goal.returns-in-None
returns-in-None g c =
    all_words g.E.LineEntry.grammar c.args.text.now c.in-Some.name.now c.next.new.self c.take.new.words c.in_ok-entry.entry (sym c.of-words.ensures ∙ c.in-Some.ensures) c.in_ok-entry.ensures c.in-None.ensures.0
