use Rattle.word_lines.proofs.Reading.{same_word_by}
use Rattle.word_lines.proofs.words.is_word.Goals as goal

pub returns : goal.returns
returns c = same_word_by c.args.word.now c.args.name.now c.eq.result c.eq.ensures
