use Rattle.word_lines.proofs.Taken.{list_taken}
use Rattle.word_lines.proofs.items.take_list.Goals as goal

pub returns : goal.returns
returns g c = list_taken g.T.Printed.words_of g.T.Item.is_good g.T.Item.step c.args.words.now c.take.new.words c.take_items.new.words c.in_ok-count.count c.take_items.result c.in_ok-count.ensures c.take_items.ensures
