use Rattle.std.proofs.Common.{All}
use Rattle.benson_dual.specs.Order.{IsOrder}
use Rattle.benson_dual.proofs.order.orders.Given as goal

abbrev pub invariant-loop-first : goal.invariant-loop-first
invariant-loop-first l = All (IsOrder l.count) l.list.items
