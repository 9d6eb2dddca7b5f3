use Rattle.std.proofs.Common.{codes, arith, sym, ap, ◌∙◌}
use Rattle.frac128.specs.Held.{held_zero, is_held}
use Rattle.frac128.specs.Text.{frac_text}
use Rattle.word_lines.proofs.Numerals.{same_word-true}
use Rattle.word_lines.proofs.Fractions.{zero_text}
use Rattle.word_lines.proofs.Reading.{number_read}
use Rattle.word_lines.proofs.number.fraction.Goals as goal

pub returns-then-is_word : goal.returns-then-is_word
returns-then-is_word c =
    (ap is_held c.zero.ensures ∙ held_zero, same_word-true c.args.word.now (codes "0") (sym c.if-is_word.ensures) ∙ sym zero_text ∙ ap frac_text (sym c.zero.ensures))

pub returns-in-Some-in_lowest_terms : goal.returns-in-Some-in_lowest_terms
returns-in-Some-in_lowest_terms c =
    let q = c.in-Some-in_lowest_terms.ensures in
    let parts = c.in-Some.ensures in
    number_read c.args.word.now c.signed_word-negative.result.1.now c.signed_word-negative.result.0 c.in-Some.parts.num c.in-Some.parts.den c.in-Some-in_lowest_terms.number
    c.signed_word-negative.ensures.sign c.signed_word-negative.ensures.rest parts.0 parts.1 parts.2 (omega arith) (omega arith) q.0 q.1 q.2
