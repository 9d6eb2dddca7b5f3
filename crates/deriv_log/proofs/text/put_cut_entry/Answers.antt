use Rattle.std.proofs.Common.{codes}
use Rattle.word_lines.specs.Parts.{number, sparse, vector}
use Rattle.word_lines.proofs.Spaced.{named, then_part, whole_text}
use Rattle.deriv_log.proofs.text.put_cut_entry.Goals as goal

pub returns : goal.returns
returns c = whole_text (then_part (sparse c.args.v.now) (then_part (sparse c.args.u.now) (then_part (number c.args.gamma) (then_part (vector c.args.w.now) (named c.args.into.now (codes "cut") c.append.new.self c.in_ok-append.ensures.ok) c.in_ok-put_vector.ensures) c.in_ok-put_number.ensures) c.in_ok-put_sparse.ensures) c.in_ok-put_sparse-2.ensures)
