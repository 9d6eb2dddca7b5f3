use Rattle.std.proofs.Common.{codes}
use Rattle.word_lines.specs.Parts.{naturals, vector}
use Rattle.word_lines.proofs.Spaced.{named, then_part, whole_text}
use Rattle.rep_text.proofs.conv_line.put_start.Goals as goal

pub returns : goal.returns
returns c = whole_text (then_part (vector c.args.gens.now) (then_part (naturals c.args.rows.now) (named c.args.into.now (codes "start") c.append.new.self c.in_ok-append.ensures.ok) c.in_ok-put_naturals.ensures) c.in_ok-put_vector.ensures)
