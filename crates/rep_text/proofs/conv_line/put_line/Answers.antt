use Rattle.std.proofs.Common.{codes}
use Rattle.word_lines.specs.Parts.{vector}
use Rattle.word_lines.proofs.Spaced.{named, then_part, whole_text}
use Rattle.rep_text.proofs.conv_line.put_line.Goals as goal

pub returns : goal.returns
returns c = whole_text (then_part (vector c.args.d.now) (named c.args.into.now (codes "line") c.append.new.self c.in_ok-append.ensures.ok) c.in_ok-put_vector.ensures)
