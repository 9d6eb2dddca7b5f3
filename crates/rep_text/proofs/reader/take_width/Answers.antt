use Rattle.rep_text.proofs.RowRead.{width_taken, width_fails, too_small, too_large}
use Rattle.rep_text.proofs.reader.take_width.Goals as goal
use Rattle.rep_text.proofs.reader.take_width.Goals.{else-width-ge1-via-then-width-ge1+else-width-le19, else-width-ge1-via-else-width-ge1}

pub returns-then-width-le19 : goal.returns-then-width-le19
returns-then-width-le19 c = width_taken c.in_ok-width.width c.args.words.now c.take.new.words c.if-width-ge1.true c.if-width-le19.true c.in_ok-width.ensures

pub returns-else-width-ge1 : goal.returns-else-width-ge1
returns-else-width-ge1 c =
    elim c.else-width-ge1.branch [
      | else-width-ge1-via-then-width-ge1+else-width-le19 w ↦ width_fails c.in_ok-width.width c.args.words.now c.take.new.words (too_large c.in_ok-width.width w.if-width-le19.false) c.in_ok-width.ensures
      | else-width-ge1-via-else-width-ge1 w ↦ width_fails c.in_ok-width.width c.args.words.now c.take.new.words (too_small c.in_ok-width.width w.if-width-ge1.false) c.in_ok-width.ensures
    ]
