use Rattle.word_lines.proofs.Taken.{place_taken, place_fails}
use Rattle.word_lines.proofs.parts.take_place.Goals as goal

pub returns-then-at-last : goal.returns-then-at-last
returns-then-at-last c = place_taken c.args.last c.in_ok-at.at c.args.words.now c.take.new.words c.if-at-last.true c.in_ok-at.ensures

pub returns-else-at-last : goal.returns-else-at-last
returns-else-at-last c = place_fails c.args.last c.in_ok-at.at c.args.words.now c.take.new.words c.if-at-last.false c.in_ok-at.ensures
