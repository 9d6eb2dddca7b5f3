use Rattle.std.proofs.Common.{◌≡◌, ◌++◌, ◌∷◌, [], sym, ◌∙◌, ap}
use Rattle.std.specs.Prelude.{not}
use Rattle.log_rules.proofs.PassedTests.{contained, not_contained}
use Rattle.overflows.proofs.Sparse.{on_ok}
use Rattle.rep_convert.specs.Order.{IsOrder}
use Rattle.rep_convert.proofs.Ordered.{order_more, order_skip}
use Rattle.rep_convert.proofs.order.push_unused.Goals as goal

pub returns-then-contains : goal.returns-then-contains
returns-then-contains c =
    order_skip c.args.k c.args.used.now c.args.order.now c.requires
    (contained c.args.used.now c.args.k (sym c.contains.ensures.value ∙ c.if-contains.true))

pub returns : goal.returns
returns c =
    on_ok c.push.result (c.push.new.self ≡ c.args.order.now ++ c.args.k ∷ []) (IsOrder _ c.args.used.now c.push.new.self)
    (λ pushed. order_more c.args.k c.args.used.now c.args.order.now c.push.new.self c.requires
    (not_contained c.args.used.now c.args.k (ap not (sym c.contains.ensures.value ∙ c.if-contains.false))) pushed)
    c.push.ensures.ok
