use Rattle.rep_convert.specs.Order.{IsOrder}
use Rattle.rep_convert.proofs.order.list_unused.Given as goal

abbrev pub invariant-loop-k : goal.invariant-loop-k
invariant-loop-k l = IsOrder l.k l.used l.order
