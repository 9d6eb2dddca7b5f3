use Rattle.std.proofs.Common.{codes}
use Rattle.word_lines.specs.Parts.{kind}
use Rattle.word_lines.proofs.Spaced.{named, then_part, whole_text}
use Rattle.deriv_log.proofs.text.put_end_entry.Goals as goal

pub returns : goal.returns
returns c = whole_text (then_part (kind c.args.kind) (named c.args.into.now (codes "end") c.append.new.self c.in_ok-append.ensures.ok) c.in_ok-put_kind.ensures)
