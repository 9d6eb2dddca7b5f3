use Rattle.std.proofs.Common.{rules, arith, length, map}
use Rattle.std.proofs.lemmas.List.{length-map}
use Rattle.upper_image.specs.Spots.{dense}
use Rattle.entry_checks.specs.Parts.{vanishing_events}
use Rattle.entry_checks.proofs.Going.{at-room, at-stop, at-more}
use Rattle.vlp_matrices.proofs.Lists.{item-as}
use Rattle.vlp_matrices.proofs.Lists.{map-at}
use Rattle.entry_checks.proofs.cut.all_vanish.Goals as goal

pub vanishes-requires-clause-room : goal.vanishes-requires-clause-room
vanishes-requires-clause-room c =
    let most = at-room (vanishing_events c.args.u.now) (map (dense (length c.args.u.now)) c.args.sides.now) c.args.counter.now.taken c.loop-column.column-index c.loop-column.counter.taken (dense (length c.args.u.now) c.as_slice.result.now) (rw length-map (omega arith)) (map-at (dense (length c.args.u.now)) c.args.sides.now c.loop-column.column-index c.as_slice.result.now (omega arith) (item-as c.args.sides.now c.loop-column.column-index c.column-item.result c.as_slice.result.now c.as_slice.ensures.items c.column-item.is)) c.loop-column.invariant in
    let room = c.requires.room in
    omega (arith, most, room)

pub returns-in_err-vanishes : goal.returns-in_err-vanishes
returns-in_err-vanishes c =
    let stopped = at-stop (vanishing_events c.args.u.now) (map (dense (length c.args.u.now)) c.args.sides.now) c.args.counter.now.taken c.loop-column.column-index c.loop-column.counter.taken (dense (length c.args.u.now) c.as_slice.result.now) c.in_err-vanishes.field-0.0 (rw length-map (omega arith)) (map-at (dense (length c.args.u.now)) c.args.sides.now c.loop-column.column-index c.as_slice.result.now (omega arith) (item-as c.args.sides.now c.loop-column.column-index c.column-item.result c.as_slice.result.now c.as_slice.ensures.items c.column-item.is)) c.loop-column.invariant c.in_err-vanishes.ensures in
    search (stopped, rules)

pub loop-column-preserved : goal.loop-column-preserved
loop-column-preserved c =
    at-more (vanishing_events c.args.u.now) (map (dense (length c.args.u.now)) c.args.sides.now) c.args.counter.now.taken c.loop-column.column-index c.loop-column.counter.taken c.vanishes.new.counter.taken (dense (length c.args.u.now) c.as_slice.result.now) (rw length-map (omega arith)) (map-at (dense (length c.args.u.now)) c.args.sides.now c.loop-column.column-index c.as_slice.result.now (omega arith) (item-as c.args.sides.now c.loop-column.column-index c.column-item.result c.as_slice.result.now c.as_slice.ensures.items c.column-item.is)) c.loop-column.invariant
    record { none = c.in_ok-vanishes.ensures.0; count = c.in_ok-vanishes.ensures.1 }
