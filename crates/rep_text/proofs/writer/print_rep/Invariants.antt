use Rattle.std.proofs.Common.{◌≡◌, ◌++◌, take}
use Rattle.std.specs.List.{flat_map}
use Rattle.src_sink.specs.Texts.{line_text}
use Rattle.rep_text.specs.RepText.{head_words, row_words}
use Rattle.rep_text.proofs.writer.print_rep.Given as goal

abbrev pub invariant-loop-row : goal.invariant-loop-row
invariant-loop-row l = l.text ≡ line_text (head_words l.rep.gens l.rep.width) ++ flat_map (λ row. line_text (row_words row)) (take l.row-index l.row-items)
