use Rattle.std.proofs.Common.{length, ◌∙◌}
use Rattle.rep_conv.specs.Rows.{text_rows}
use Rattle.rep_conv.proofs.Marked.{all_are}
use Rattle.rep_conv.proofs.progress.Standing.are_all_used.Goals as goal

pub returns : goal.returns
returns c rep s h = c.has_all.ensures ∙ all_are (length (text_rows rep)) s.used c.args.self.now.in_use h.in_use
