use Rattle.std.proofs.Common.{sym, ◌∙◌}
use Rattle.rep_text.proofs.RowRead.{head_read}
use Rattle.rep_text.proofs.reader.read_head.Goals as goal

pub returns-in-None : goal.returns-in-None
returns-in-None c =
    head_read c.args.text.now c.in-Some.name.now c.next.new.self c.take_width.new.words c.in-Some-head_kind.gens c.in_ok-width.width (sym c.of-words.ensures ∙ c.in-Some.ensures) c.in-Some-head_kind.ensures c.in_ok-width.ensures c.in-None.ensures.0
