use Rattle.word_lines.proofs.Taken.{value_taken}
use Rattle.word_lines.proofs.parts.take_value.Goals as goal

pub returns-in_ok-nonzero_number-in-Some : goal.returns-in_ok-nonzero_number-in-Some
returns-in_ok-nonzero_number-in-Some c =
    value_taken c.in_ok-nonzero_number-in-Some.field-0 c.in-Some.word.now c.args.words.now c.next.new.self c.in-Some.ensures c.in_ok-nonzero_number-in-Some.ensures
