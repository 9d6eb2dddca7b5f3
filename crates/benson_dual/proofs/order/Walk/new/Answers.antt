use Rattle.std.proofs.Common.{sym, subst}
use Rattle.benson_dual.specs.Order.{AreListed}
use Rattle.benson_dual.proofs.Listed.{listed_none}
use Rattle.benson_dual.proofs.order.Walk.new.Goals as goal

pub returns : goal.returns
returns c =
    let marks = c.in_ok-vec.field-0.items in
    subst (AreListed c.args.count marks) (sym c.new.ensures)
    (listed_none c.args.count marks (c.in_ok-vec.ensures.items_if_clones_equal (λ y e. e)))
