use Rattle.std.proofs.Common.{◌∷◌, ap, ◌∙◌, sym, length, take, arith}
use Rattle.std.proofs.lemmas.Bool.{eqb-false}
use Rattle.std.proofs.lemmas.List.{take_rest}
use Rattle.vlp_reader.specs.Lines.{words_of}
use Rattle.vlp_reader.proofs.Texts.{first_word}
use Rattle.vlp_reader.proofs.text.next_word.Goals as goal

pub returns : goal.returns
returns c =
    let rest = c.without_blanks-rest.result.now in
    let end = c.place_of-end.result in
    let some = eqb-false (length rest) 0 (sym c.if-is_empty.ensures) in
    sym c.without_blanks-rest.ensures.words
    ∙ first_word rest end c.place_of-end.ensures.value (omega arith) (c.without_blanks-rest.ensures.first (omega arith))
    ∙ ap (λ l. take end rest ∷ words_of l) (sym (take_rest rest end))
