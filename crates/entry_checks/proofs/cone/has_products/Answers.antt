use Rattle.std.proofs.Common.{rules, arith}
use Rattle.entry_checks.specs.Parts.{product_events}
use Rattle.entry_checks.proofs.Going.{at-room, at-stop, at-more}
use Rattle.vlp_matrices.proofs.Lists.{item-as}
use Rattle.entry_checks.proofs.cone.has_products.Goals as goal

pub has_product-requires-clause-room : goal.has_product-requires-clause-room
has_product-requires-clause-room c =
    let most = at-room (product_events c.args.e.now) (c.args.vectors.now) c.args.counter.now.taken c.loop-vector.vector-index c.loop-vector.counter.taken (c.as_slice.result.now) (omega arith) (item-as c.args.vectors.now c.loop-vector.vector-index c.vector-item.result c.as_slice.result.now c.as_slice.ensures.items c.vector-item.is) c.loop-vector.invariant in
    let room = c.requires.room in
    omega (arith, most, room)

pub returns-in_err-has_product : goal.returns-in_err-has_product
returns-in_err-has_product c =
    let stopped = at-stop (product_events c.args.e.now) (c.args.vectors.now) c.args.counter.now.taken c.loop-vector.vector-index c.loop-vector.counter.taken (c.as_slice.result.now) c.in_err-has_product.field-0.0 (omega arith) (item-as c.args.vectors.now c.loop-vector.vector-index c.vector-item.result c.as_slice.result.now c.as_slice.ensures.items c.vector-item.is) c.loop-vector.invariant c.in_err-has_product.ensures in
    search (stopped, rules)

pub loop-vector-preserved : goal.loop-vector-preserved
loop-vector-preserved c =
    at-more (product_events c.args.e.now) (c.args.vectors.now) c.args.counter.now.taken c.loop-vector.vector-index c.loop-vector.counter.taken c.has_product.new.counter.taken (c.as_slice.result.now) (omega arith) (item-as c.args.vectors.now c.loop-vector.vector-index c.vector-item.result c.as_slice.result.now c.as_slice.ensures.items c.vector-item.is) c.loop-vector.invariant
    record { none = c.in_ok-has_product.ensures.0; count = c.in_ok-has_product.ensures.1 }
