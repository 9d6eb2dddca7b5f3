use Rattle.std.proofs.Common.{codes}
use Rattle.word_lines.specs.Parts.{natural, sparse}
use Rattle.word_lines.proofs.Spaced.{named, then_part, whole_text}
use Rattle.deriv_log.proofs.text.put_point_entry.Goals as goal

pub returns : goal.returns
returns c = whole_text (then_part (sparse c.args.m.now) (then_part (sparse c.args.x.now) (then_part (natural c.args.generator) (named c.args.into.now (codes "point") c.append.new.self c.in_ok-append.ensures.ok) c.in_ok-put_natural.ensures) c.in_ok-put_sparse.ensures) c.in_ok-put_sparse-2.ensures)
