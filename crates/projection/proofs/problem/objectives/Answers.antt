use Rattle.projection.proofs.AssociatedCells.{next_unit, next_minus}
use Rattle.projection.proofs.problem.objectives.Goals as goal

pub loop-before-preserved : goal.loop-before-preserved
loop-before-preserved c = next_unit c.loop-before.cells c.push.new.self c.from.result c.loop-before.before c.from.ensures c.loop-before.invariant c.in_ok-push.ensures.ok

pub loop-before-2-preserved : goal.loop-before-2-preserved
loop-before-2-preserved c =
    next_minus c.args.k c.loop-before-2.cells c.push-in-loop-before-2.new.self c.from-in-loop-before-2.result c.loop-before-2.before
    c.from-in-loop-before-2.ensures c.loop-before-2.invariant c.in_ok-push-2.ensures.ok
