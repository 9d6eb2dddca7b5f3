use Rattle.replies.proofs.SamplesTold.{sums}
use Rattle.replies.proofs.lines.summary.Goals as goal

pub returns : goal.returns
returns c = sums c.args.number c.args.answer.now _ _ _ _ _ _ _ _ c.lines_of_counts.result c.requires c.in-Solved.is c.len.ensures.value c.len-in-Solved.ensures.value
    c.len-in-Solved-2.ensures.value c.lines_of_counts.ensures
