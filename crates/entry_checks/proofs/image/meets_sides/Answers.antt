use Rattle.std.proofs.Common.{rules, arith, ◌≡◌, length, map, zip}
use Rattle.std.proofs.lemmas.List.{length-map}
use Rattle.upper_image.specs.Spots.{dense}
use Rattle.entry_checks.specs.Parts.{side_events}
use Rattle.entry_checks.proofs.Going.{at-room, at-stop, at-more, at-end}
use Rattle.vlp_matrices.proofs.Lists.{item-as}
use Rattle.vlp_matrices.proofs.Lists.{map-at, zip-at, length-zip}
use Rattle.entry_checks.proofs.image.meets_sides.Goals as goal

pub meets_side-requires-clause-room : goal.meets_side-requires-clause-room
meets_side-requires-clause-room c =
    let long = length-map c.args.rows.now (dense (length c.args.x.now)) in
    let wide : length (map (dense (length c.args.x.now)) c.args.rows.now) ≡ length c.args.bounds.now = omega (arith, long) in
    let pairs = length-zip (map (dense (length c.args.x.now)) c.args.rows.now) c.args.bounds.now wide in
    let most = at-room (λ p. side_events p.0 c.args.x.now p.1) (zip (map (dense (length c.args.x.now)) c.args.rows.now) c.args.bounds.now) c.args.counter.now.taken c.loop-i.i c.loop-i.counter.taken ((dense (length c.args.x.now) c.as_slice.result.now, c.index-bounds-i.result)) (omega (arith, pairs, long)) (zip-at c.loop-i.i (map (dense (length c.args.x.now)) c.args.rows.now) c.args.bounds.now (dense (length c.args.x.now) c.as_slice.result.now) c.index-bounds-i.result (omega (arith, long)) wide (map-at (dense (length c.args.x.now)) c.args.rows.now c.loop-i.i c.as_slice.result.now (omega arith) (item-as c.args.rows.now c.loop-i.i c.index-rows-i.result c.as_slice.result.now c.as_slice.ensures.items c.index-rows-i.is)) c.index-bounds-i.is) c.loop-i.invariant in
    let room = c.requires.room in
    omega (arith, most, room)

pub returns-in_err-meets_side : goal.returns-in_err-meets_side
returns-in_err-meets_side c =
    let long = length-map c.args.rows.now (dense (length c.args.x.now)) in
    let wide : length (map (dense (length c.args.x.now)) c.args.rows.now) ≡ length c.args.bounds.now = omega (arith, long) in
    let pairs = length-zip (map (dense (length c.args.x.now)) c.args.rows.now) c.args.bounds.now wide in
    let stopped = at-stop (λ p. side_events p.0 c.args.x.now p.1) (zip (map (dense (length c.args.x.now)) c.args.rows.now) c.args.bounds.now) c.args.counter.now.taken c.loop-i.i c.loop-i.counter.taken ((dense (length c.args.x.now) c.as_slice.result.now, c.index-bounds-i.result)) c.in_err-meets_side.field-0.0 (omega (arith, pairs, long)) (zip-at c.loop-i.i (map (dense (length c.args.x.now)) c.args.rows.now) c.args.bounds.now (dense (length c.args.x.now) c.as_slice.result.now) c.index-bounds-i.result (omega (arith, long)) wide (map-at (dense (length c.args.x.now)) c.args.rows.now c.loop-i.i c.as_slice.result.now (omega arith) (item-as c.args.rows.now c.loop-i.i c.index-rows-i.result c.as_slice.result.now c.as_slice.ensures.items c.index-rows-i.is)) c.index-bounds-i.is) c.loop-i.invariant c.in_err-meets_side.ensures in
    search (stopped, rules)

pub loop-i-preserved : goal.loop-i-preserved
loop-i-preserved c =
    let long = length-map c.args.rows.now (dense (length c.args.x.now)) in
    let wide : length (map (dense (length c.args.x.now)) c.args.rows.now) ≡ length c.args.bounds.now = omega (arith, long) in
    let pairs = length-zip (map (dense (length c.args.x.now)) c.args.rows.now) c.args.bounds.now wide in
    at-more (λ p. side_events p.0 c.args.x.now p.1) (zip (map (dense (length c.args.x.now)) c.args.rows.now) c.args.bounds.now) c.args.counter.now.taken c.loop-i.i c.loop-i.counter.taken c.meets_side.new.counter.taken ((dense (length c.args.x.now) c.as_slice.result.now, c.index-bounds-i.result)) (omega (arith, pairs, long)) (zip-at c.loop-i.i (map (dense (length c.args.x.now)) c.args.rows.now) c.args.bounds.now (dense (length c.args.x.now) c.as_slice.result.now) c.index-bounds-i.result (omega (arith, long)) wide (map-at (dense (length c.args.x.now)) c.args.rows.now c.loop-i.i c.as_slice.result.now (omega arith) (item-as c.args.rows.now c.loop-i.i c.index-rows-i.result c.as_slice.result.now c.as_slice.ensures.items c.index-rows-i.is)) c.index-bounds-i.is) c.loop-i.invariant
    record { none = c.in_ok-meets_side.ensures.0; count = c.in_ok-meets_side.ensures.1 }

pub returns : goal.returns
returns c =
    let long = length-map c.args.rows.now (dense (length c.args.x.now)) in
    let wide : length (map (dense (length c.args.x.now)) c.args.rows.now) ≡ length c.args.bounds.now = omega (arith, long) in
    let pairs = length-zip (map (dense (length c.args.x.now)) c.args.rows.now) c.args.bounds.now wide in
    let done = at-end (λ p. side_events p.0 c.args.x.now p.1) (zip (map (dense (length c.args.x.now)) c.args.rows.now) c.args.bounds.now) c.args.counter.now.taken c.loop-i.i c.loop-i.counter.taken (omega (arith, long, pairs)) c.loop-i.invariant in
    (done.none, done.count, tt)
