use Rattle.weighing.proofs.Told.{told_right}
use Rattle.weighing.proofs.least.weigh.Goals as goal

pub returns-in-Solved-clause-least : goal.returns-in-Solved-clause-least
returns-in-Solved-clause-least c =
    told_right c.args.problem.now c.args.answer.now c.args.w.now c.in-Solved.c c.in-Solved.lines c.in-Solved.points c.in-Solved.directions c.in-Solved.facets
    c.as_slice.result.now c.as_slice-in-Solved-2.result.now c.as_slice-in-Solved.result.now c.in-Solved.is c.as_slice.ensures.items c.as_slice-in-Solved-2.ensures.items
    c.as_slice-in-Solved.ensures.items c.requires.right c.weigh_image.result c.weigh_image.ensures.ok
