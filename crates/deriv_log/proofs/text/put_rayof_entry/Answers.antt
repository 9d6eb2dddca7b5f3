use Rattle.std.proofs.Common.{codes}
use Rattle.word_lines.specs.Parts.{natural, sparse}
use Rattle.word_lines.proofs.Spaced.{named, then_part, whole_text}
use Rattle.deriv_log.proofs.text.put_rayof_entry.Goals as goal

pub returns : goal.returns
returns c = whole_text (then_part (sparse c.args.m.now) (then_part (natural c.args.share) (then_part (natural c.args.generator) (named c.args.into.now (codes "rayof") c.append.new.self c.in_ok-append.ensures.ok) c.in_ok-put_natural.ensures) c.in_ok-put_natural-2.ensures) c.in_ok-put_sparse.ensures)
