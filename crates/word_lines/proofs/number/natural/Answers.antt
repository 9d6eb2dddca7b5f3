use Rattle.std.proofs.Common.{decimal, codes, arith, sym, ap, ◌∙◌}
use Rattle.word_lines.proofs.Reading.{natural_read}
use Rattle.word_lines.proofs.Numerals.{decimal_zero, same_word-true}
use Rattle.word_lines.proofs.number.natural.Goals as goal

pub returns-then-is_word : goal.returns-then-is_word
returns-then-is_word c = (omega arith, same_word-true c.args.word.now (codes "0") (sym c.if-is_word.ensures) ∙ sym decimal_zero)

pub returns-in-Ok : goal.returns-in-Ok
returns-in-Ok c =
    let parts = c.in-Some.ensures in
    let n = c.in-Ok.ensures in
    (omega (arith, n.0, n.1), natural_read c.args.word.now c.in-Some.value parts.0 parts.1 (omega (arith, n.0)) ∙ ap decimal (sym n.1))
