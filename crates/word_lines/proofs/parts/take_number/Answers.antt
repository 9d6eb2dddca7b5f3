use Rattle.word_lines.proofs.Taken.{number_taken}
use Rattle.word_lines.proofs.parts.take_number.Goals as goal

pub returns : goal.returns
returns c = number_taken c.args.words.now c.take.new.words c.take.result c.take.ensures
