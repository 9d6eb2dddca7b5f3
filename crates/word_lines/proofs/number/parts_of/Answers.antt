use Rattle.std.proofs.Common.{◌∷◌, ap, ◌∙◌}
use Rattle.src_sink.specs.Texts.{pieces_after}
use Rattle.word_lines.proofs.Reading.{cut_quotient}
use Rattle.word_lines.proofs.number.parts_of.Goals as goal

pub returns-in-Some : goal.returns-in-Some
returns-in-Some c =
    cut_quotient c.args.word.now c.first_piece.result.0.now c.in-Some.den.now c.quotient_of.result
    (c.first_piece.ensures.pieces ∙ ap (λ rest. c.first_piece.result.0.now ∷ pieces_after 47 rest) c.in-Some.is) c.quotient_of.ensures
