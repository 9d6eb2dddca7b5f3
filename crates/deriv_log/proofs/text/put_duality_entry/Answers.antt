use Rattle.std.proofs.Common.{codes}
use Rattle.word_lines.specs.Parts.{naturals, vector}
use Rattle.word_lines.proofs.Spaced.{named, then_part, whole_text}
use Rattle.deriv_log.proofs.text.put_duality_entry.Goals as goal

pub returns : goal.returns
returns c = whole_text (then_part (vector c.args.inverse.now) (then_part (naturals c.args.picks.now) (then_part (vector c.args.weights.now) (then_part (vector c.args.c.now) (named c.args.into.now (codes "duality") c.append.new.self c.in_ok-append.ensures.ok) c.in_ok-put_vector.ensures) c.in_ok-put_vector-2.ensures) c.in_ok-put_naturals.ensures) c.in_ok-put_vector-3.ensures)
