use Rattle.word_lines.proofs.Taken.{sparse_taken}
use Rattle.word_lines.proofs.parts.take_sparse.Goals as goal

pub returns : goal.returns
returns c = sparse_taken c.args.words.now c.take.new.words c.take_spots.new.words c.in_ok-count.count c.take_spots.result c.in_ok-count.ensures c.take_spots.ensures
