use Rattle.word_lines.proofs.Taken.{vector_taken}
use Rattle.word_lines.proofs.parts.take_vector.Goals as goal

pub returns : goal.returns
returns c = vector_taken c.args.words.now c.take_list.new.words c.take_list.result c.take_list.ensures
