use Rattle.std.proofs.Common.{rules, arith, ◌≡◌, length, map, zip}
use Rattle.std.proofs.lemmas.List.{length-map}
use Rattle.upper_image.specs.Spots.{dense}
use Rattle.entry_checks.specs.Parts.{balance_events}
use Rattle.entry_checks.proofs.Going.{at-room, at-stop, at-more, at-end}
use Rattle.vlp_matrices.proofs.Lists.{item-as}
use Rattle.vlp_matrices.proofs.Lists.{map-at, zip-at, length-zip}
use Rattle.entry_checks.proofs.cut.are_balanced.Goals as goal

pub is_balanced-requires-clause-room : goal.is_balanced-requires-clause-room
is_balanced-requires-clause-room c =
    let long = length-map c.args.sides.now (dense (length c.args.u.now)) in
    let tall = length-map c.args.objectives.now (dense (length c.args.w.now)) in
    let wide : length (map (dense (length c.args.u.now)) c.args.sides.now) ≡ length (map (dense (length c.args.w.now)) c.args.objectives.now) = omega (arith, long, tall) in
    let pairs = length-zip (map (dense (length c.args.u.now)) c.args.sides.now) (map (dense (length c.args.w.now)) c.args.objectives.now) wide in
    let most = at-room (λ p. balance_events p.0 p.1 c.args.u.now c.args.w.now) (zip (map (dense (length c.args.u.now)) c.args.sides.now) (map (dense (length c.args.w.now)) c.args.objectives.now)) c.args.counter.now.taken c.loop-j.j c.loop-j.counter.taken ((dense (length c.args.u.now) c.as_slice-column.result.now, dense (length c.args.w.now) c.as_slice-weights.result.now)) (omega (arith, long, pairs)) (zip-at c.loop-j.j (map (dense (length c.args.u.now)) c.args.sides.now) (map (dense (length c.args.w.now)) c.args.objectives.now) (dense (length c.args.u.now) c.as_slice-column.result.now) (dense (length c.args.w.now) c.as_slice-weights.result.now) (omega (arith, long)) wide (map-at (dense (length c.args.u.now)) c.args.sides.now c.loop-j.j c.as_slice-column.result.now (omega arith) (item-as c.args.sides.now c.loop-j.j c.index-sides-j.result c.as_slice-column.result.now c.as_slice-column.ensures.items c.index-sides-j.is)) (map-at (dense (length c.args.w.now)) c.args.objectives.now c.loop-j.j c.as_slice-weights.result.now (omega arith) (item-as c.args.objectives.now c.loop-j.j c.index-objectives-j.result c.as_slice-weights.result.now c.as_slice-weights.ensures.items c.index-objectives-j.is))) c.loop-j.invariant in
    let room = c.requires.room in
    omega (arith, most, room)

pub returns-in_err-is_balanced : goal.returns-in_err-is_balanced
returns-in_err-is_balanced c =
    let long = length-map c.args.sides.now (dense (length c.args.u.now)) in
    let tall = length-map c.args.objectives.now (dense (length c.args.w.now)) in
    let wide : length (map (dense (length c.args.u.now)) c.args.sides.now) ≡ length (map (dense (length c.args.w.now)) c.args.objectives.now) = omega (arith, long, tall) in
    let pairs = length-zip (map (dense (length c.args.u.now)) c.args.sides.now) (map (dense (length c.args.w.now)) c.args.objectives.now) wide in
    let stopped = at-stop (λ p. balance_events p.0 p.1 c.args.u.now c.args.w.now) (zip (map (dense (length c.args.u.now)) c.args.sides.now) (map (dense (length c.args.w.now)) c.args.objectives.now)) c.args.counter.now.taken c.loop-j.j c.loop-j.counter.taken ((dense (length c.args.u.now) c.as_slice-column.result.now, dense (length c.args.w.now) c.as_slice-weights.result.now)) c.in_err-is_balanced.field-0.0 (omega (arith, long, pairs)) (zip-at c.loop-j.j (map (dense (length c.args.u.now)) c.args.sides.now) (map (dense (length c.args.w.now)) c.args.objectives.now) (dense (length c.args.u.now) c.as_slice-column.result.now) (dense (length c.args.w.now) c.as_slice-weights.result.now) (omega (arith, long)) wide (map-at (dense (length c.args.u.now)) c.args.sides.now c.loop-j.j c.as_slice-column.result.now (omega arith) (item-as c.args.sides.now c.loop-j.j c.index-sides-j.result c.as_slice-column.result.now c.as_slice-column.ensures.items c.index-sides-j.is)) (map-at (dense (length c.args.w.now)) c.args.objectives.now c.loop-j.j c.as_slice-weights.result.now (omega arith) (item-as c.args.objectives.now c.loop-j.j c.index-objectives-j.result c.as_slice-weights.result.now c.as_slice-weights.ensures.items c.index-objectives-j.is))) c.loop-j.invariant c.in_err-is_balanced.ensures in
    search (stopped, rules)

pub loop-j-preserved : goal.loop-j-preserved
loop-j-preserved c =
    let long = length-map c.args.sides.now (dense (length c.args.u.now)) in
    let tall = length-map c.args.objectives.now (dense (length c.args.w.now)) in
    let wide : length (map (dense (length c.args.u.now)) c.args.sides.now) ≡ length (map (dense (length c.args.w.now)) c.args.objectives.now) = omega (arith, long, tall) in
    let pairs = length-zip (map (dense (length c.args.u.now)) c.args.sides.now) (map (dense (length c.args.w.now)) c.args.objectives.now) wide in
    at-more (λ p. balance_events p.0 p.1 c.args.u.now c.args.w.now) (zip (map (dense (length c.args.u.now)) c.args.sides.now) (map (dense (length c.args.w.now)) c.args.objectives.now)) c.args.counter.now.taken c.loop-j.j c.loop-j.counter.taken c.is_balanced.new.counter.taken ((dense (length c.args.u.now) c.as_slice-column.result.now, dense (length c.args.w.now) c.as_slice-weights.result.now)) (omega (arith, long, pairs)) (zip-at c.loop-j.j (map (dense (length c.args.u.now)) c.args.sides.now) (map (dense (length c.args.w.now)) c.args.objectives.now) (dense (length c.args.u.now) c.as_slice-column.result.now) (dense (length c.args.w.now) c.as_slice-weights.result.now) (omega (arith, long)) wide (map-at (dense (length c.args.u.now)) c.args.sides.now c.loop-j.j c.as_slice-column.result.now (omega arith) (item-as c.args.sides.now c.loop-j.j c.index-sides-j.result c.as_slice-column.result.now c.as_slice-column.ensures.items c.index-sides-j.is)) (map-at (dense (length c.args.w.now)) c.args.objectives.now c.loop-j.j c.as_slice-weights.result.now (omega arith) (item-as c.args.objectives.now c.loop-j.j c.index-objectives-j.result c.as_slice-weights.result.now c.as_slice-weights.ensures.items c.index-objectives-j.is))) c.loop-j.invariant
    record { none = c.in_ok-is_balanced.ensures.0; count = c.in_ok-is_balanced.ensures.1 }

pub returns : goal.returns
returns c =
    let long = length-map c.args.sides.now (dense (length c.args.u.now)) in
    let tall = length-map c.args.objectives.now (dense (length c.args.w.now)) in
    let wide : length (map (dense (length c.args.u.now)) c.args.sides.now) ≡ length (map (dense (length c.args.w.now)) c.args.objectives.now) = omega (arith, long, tall) in
    let pairs = length-zip (map (dense (length c.args.u.now)) c.args.sides.now) (map (dense (length c.args.w.now)) c.args.objectives.now) wide in
    let done = at-end (λ p. balance_events p.0 p.1 c.args.u.now c.args.w.now) (zip (map (dense (length c.args.u.now)) c.args.sides.now) (map (dense (length c.args.w.now)) c.args.objectives.now)) c.args.counter.now.taken c.loop-j.j c.loop-j.counter.taken (omega (arith, long, pairs)) c.loop-j.invariant in
    (done.none, done.count, tt)
