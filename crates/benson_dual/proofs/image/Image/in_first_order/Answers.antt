use Rattle.std.proofs.Common.{rules, List, arith, length, subst, sym}
use Rattle.std.proofs.lemmas.List.Elements.{All-take}
use Rattle.benson_dual.specs.Order.{IsOrder}
use Rattle.benson_dual.proofs.image.Image.in_first_order.Goals as goal

pub try_order-requires : goal.try_order-requires
try_order-requires g c κs within =
    let facets = c.args.facets.now in (
      search rules,
      (
        c.requires.1.0,
        (
          c.requires.1.1.0,
          subst (IsOrder (length facets)) (sym c.as_slice.ensures.items)
              (subst (λ (o : List _). IsOrder (length facets) o) (sym c.order-item.is)
              (All-take (IsOrder (length facets)) _ c.args.orders.now c.requires.1.1.1.1 c.loop-order.order-index c.order-item.result c.loop-order-test.true)),
        ),
      ),
    )

pub in_order-requires : goal.in_order-requires
in_order-requires g c κs within =
    let facets = c.args.facets.now in (
      search rules,
      (
        c.requires.1.0,
        (
          c.requires.1.1.0,
          subst (IsOrder (length facets)) (sym c.as_slice-2.ensures.items)
              (subst (λ (o : List _). IsOrder (length facets) o) (sym c.index-orders-last.is)
              (c.requires.1.1.1.1 _ c.index-orders-last.result (let s = c.requires.1.1.1.0 in omega (arith, s)))),
        ),
      ),
    )
