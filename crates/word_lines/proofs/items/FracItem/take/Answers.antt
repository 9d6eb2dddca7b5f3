use Rattle.std.proofs.Common.{◌∷◌, ◌≡◌, ap, ◌∙◌}
use Rattle.exact_field.specs.Rational.{ℚ}
use Rattle.frac128.specs.Text.{frac_text}
use Rattle.word_lines.specs.LineFault.{word}
use Rattle.word_lines.specs.Numerals.{number_fault}
use Rattle.word_lines.proofs.Forms.{reads_numbers_pass}
use Rattle.word_lines.proofs.items.FracItem.take.Goals as goal

pub returns-in_ok-fraction-in-Some : goal.returns-in_ok-fraction-in-Some
returns-in_ok-fraction-in-Some c =
    let q : ℚ = c.in_ok-fraction-in-Some.field-0 in
    let h = c.in_ok-fraction-in-Some.ensures in
    let text : c.args.words.now ≡ frac_text q ∷ c.next.new.self = c.in-Some.ensures ∙ ap (λ w. w ∷ c.next.new.self) h.1 in
    (h.0, ap (word number_fault) text ∙ reads_numbers_pass q c.next.new.self h.0, text)
