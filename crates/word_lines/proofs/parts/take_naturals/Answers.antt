use Rattle.word_lines.proofs.Taken.{naturals_taken}
use Rattle.word_lines.proofs.parts.take_naturals.Goals as goal

pub returns : goal.returns
returns c = naturals_taken c.args.words.now c.take_list.new.words c.take_list.result c.take_list.ensures
