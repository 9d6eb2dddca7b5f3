use Rattle.std.proofs.Common.{◌∷◌, ℕ, ◌^◌, decimal, ◌≡◌, ap, ◌∙◌}
use Rattle.std.proofs.lemmas.Bool.{lt-ltb}
use Rattle.word_lines.specs.LineFault.{word}
use Rattle.word_lines.specs.Numerals.{natural_fault}
use Rattle.word_lines.proofs.Forms.{reads_naturals_pass}
use Rattle.word_lines.proofs.items.U32Item.take.Goals as goal

pub returns-in_ok-natural-in-Some : goal.returns-in_ok-natural-in-Some
returns-in_ok-natural-in-Some c =
    let n : ℕ = c.in_ok-natural-in-Some.field-0 in
    let h = c.in_ok-natural-in-Some.ensures in
    let short = lt-ltb n (2 ^ 32) h.0 in
    let text : c.args.words.now ≡ decimal n ∷ c.next.new.self = c.in-Some.ensures ∙ ap (λ w. w ∷ c.next.new.self) h.1 in
    (short, ap (word natural_fault) text ∙ reads_naturals_pass n c.next.new.self short, text)
