use Rattle.std.proofs.Common.{List, ℕ, sym, subst}
use Rattle.rep_convert.specs.Order.{IsOrder}
use Rattle.rep_convert.proofs.Ordered.{order_none}
use Rattle.rep_convert.proofs.order.list_unused.Goals as goal

pub loop-k-init : goal.loop-k-init
loop-k-init c = subst (λ (order : List ℕ). IsOrder 0 c.args.used.now order) (sym c.new-order.ensures) (order_none c.args.used.now)
