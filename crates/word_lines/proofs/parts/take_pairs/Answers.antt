use Rattle.word_lines.proofs.Taken.{pairs_taken}
use Rattle.word_lines.proofs.parts.take_pairs.Goals as goal

pub returns : goal.returns
returns c = pairs_taken c.args.words.now c.take_list.new.words c.take_list.result c.take_list.ensures
