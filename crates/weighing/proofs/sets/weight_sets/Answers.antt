use Rattle.weighing.proofs.Numbers.{one_set_more}
use Rattle.weighing.proofs.sets.weight_sets.Goals as goal

pub loop-before-preserved : goal.loop-before-preserved
loop-before-preserved c = one_set_more c.args.tight.now c.loop-before.before c.loop-before.sets c.push.new.self c.in_ok-lists_with.field-0 c.loop-before.invariant c.in_ok-lists_with.ensures c.in_ok-push.ensures.ok
