use Rattle.std.proofs.Common.{[], ◌∷◌, ap, ◌∙◌, sym, subst, ◌<◌, IfSome, length, arith}
use Rattle.src_sink.specs.Texts.{pieces_after}
use Rattle.std.proofs.lemmas.Bool.{eqb-false}
use Rattle.vlp_reader.specs.Lines.{lines_of}
use Rattle.vlp_reader.proofs.Texts.{first_line, last_line}
use Rattle.vlp_reader.proofs.text.next_line.Goals as goal

pub returns-in-Some : goal.returns-in-Some
returns-in-Some c =
    let piece = c.first_piece.result.0.now in
    let rest = c.in-Some.rest.now in (
      first_line c.args.text.now piece rest (c.first_piece.ensures.pieces ∙ ap (λ b. piece ∷ pieces_after 10 b) c.in-Some.is)
          ∙ ap (λ l. l ∷ lines_of rest) (sym c.without_return-line.ensures),
      subst (λ b. IfSome b (λ r. length r.now < length c.args.text.now)) c.in-Some.is c.first_piece.ensures.shorter,
    )

pub returns-in-None : goal.returns-in-None
returns-in-None c =
    let text = c.args.text.now in
    let piece = c.first_piece.result.0.now in
    let other = eqb-false (length text) 0 (sym c.if-is_empty.ensures) in (
      last_line text piece (omega arith) (c.first_piece.ensures.pieces ∙ ap (λ b. piece ∷ pieces_after 10 b) c.in-None.is)
          ∙ ap (λ l. l ∷ lines_of []) (sym c.without_return-line.ensures),
      omega arith,
    )
