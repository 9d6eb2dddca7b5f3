use Rattle.std.proofs.Common.{◌++◌, arith, ap, ◌∙◌}
use Rattle.std.specs.List.{flat_map}
use Rattle.std.proofs.lemmas.List.{take_all}
use Rattle.src_sink.specs.Texts.{line_text}
use Rattle.rep_text.specs.RepText.{head_words, row_words}
use Rattle.rep_text.proofs.RepByLine.{rep_put}
use Rattle.rep_text.proofs.writer.print_rep.Goals as goal

pub returns : goal.returns
returns c =
    let rep = c.args.rep.now in
    let items = c.as_slice-row-items.result.now in
    let head = line_text (head_words rep.gens rep.width) in
    let whole = take_all c.loop-row.row-index items (omega arith) in
    rep_put head c.loop-row.text c.append.new.self rep.rows
    (c.loop-row.invariant ∙ ap (λ rows. head ++ flat_map (λ row. line_text (row_words row)) rows) (whole ∙ c.as_slice-row-items.ensures.items)) c.in_ok-append.ensures.ok
