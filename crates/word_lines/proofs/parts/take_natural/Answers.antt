use Rattle.word_lines.proofs.Taken.{natural_taken}
use Rattle.word_lines.proofs.parts.take_natural.Goals as goal

pub returns : goal.returns
returns c = natural_taken c.args.words.now c.take.new.words c.take.result c.take.ensures
