use Rattle.std.proofs.Common.{codes}
use Rattle.word_lines.specs.Parts.{natural}
use Rattle.word_lines.proofs.Spaced.{named, then_part, whole_text}
use Rattle.rep_text.proofs.conv_line.put_conv.Goals as goal

pub returns : goal.returns
returns c = whole_text (then_part (natural c.args.number) (named c.args.into.now (codes "conv") c.append.new.self c.in_ok-append.ensures.ok) c.in_ok-put_natural.ensures)
