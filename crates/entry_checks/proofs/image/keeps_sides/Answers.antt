use Rattle.std.proofs.Common.{rules, subst, ap, arith, List, length, map}
use Rattle.std.proofs.lemmas.List.{length-map}
use Rattle.exact_field.specs.Rational.{ℚ, zero_ℚ}
use Rattle.frac128.specs.Held.{is_held}
use Rattle.log_rules.specs.Events.{Event}
use Rattle.log_rules.specs.Runs.{Stops, steps}
use Rattle.upper_image.specs.Spots.{dense}
use Rattle.entry_checks.specs.Parts.{side_events}
use Rattle.entry_checks.proofs.Going.{Passed, at-room, at-stop, at-more}
use Rattle.vlp_matrices.proofs.Lists.{item-as}
use Rattle.vlp_matrices.proofs.Lists.{map-at}
use Rattle.entry_checks.proofs.image.keeps_sides.Goals as goal

pub meets_side-requires-clause-room : goal.meets_side-requires-clause-room
meets_side-requires-clause-room c =
    let most = at-room (λ v. side_events v c.args.x.now zero_ℚ) (map (dense (length c.args.x.now)) c.args.rows.now) c.args.counter.now.taken c.loop-row.row-index c.loop-row.counter.taken (dense (length c.args.x.now) c.as_slice.result.now) (rw length-map (omega arith)) (map-at (dense (length c.args.x.now)) c.args.rows.now c.loop-row.row-index c.as_slice.result.now (omega arith) (item-as c.args.rows.now c.loop-row.row-index c.row-item.result c.as_slice.result.now c.as_slice.ensures.items c.row-item.is)) c.loop-row.invariant in
    let same = ap steps (ap (λ (z : ℚ). side_events (dense (length c.args.x.now) c.as_slice.result.now) c.args.x.now z) c.from.ensures) in
    let room = c.requires.room in
    omega (arith, most, room, same)

pub returns-in_err-meets_side : goal.returns-in_err-meets_side
returns-in_err-meets_side c =
    let stopped = at-stop (λ v. side_events v c.args.x.now zero_ℚ) (map (dense (length c.args.x.now)) c.args.rows.now) c.args.counter.now.taken c.loop-row.row-index c.loop-row.counter.taken (dense (length c.args.x.now) c.as_slice.result.now) c.in_err-meets_side.field-0.0 (rw length-map (omega arith)) (map-at (dense (length c.args.x.now)) c.args.rows.now c.loop-row.row-index c.as_slice.result.now (omega arith) (item-as c.args.rows.now c.loop-row.row-index c.row-item.result c.as_slice.result.now c.as_slice.ensures.items c.row-item.is)) c.loop-row.invariant (subst (λ (es : List Event). Stops is_held es c.loop-row.counter.taken c.in_err-meets_side.field-0.0) (ap (λ (z : ℚ). side_events (dense (length c.args.x.now) c.as_slice.result.now) c.args.x.now z) c.from.ensures) c.in_err-meets_side.ensures) in
    search (stopped, rules)

pub loop-row-preserved : goal.loop-row-preserved
loop-row-preserved c =
    at-more (λ v. side_events v c.args.x.now zero_ℚ) (map (dense (length c.args.x.now)) c.args.rows.now) c.args.counter.now.taken c.loop-row.row-index c.loop-row.counter.taken c.meets_side.new.counter.taken (dense (length c.args.x.now) c.as_slice.result.now) (rw length-map (omega arith)) (map-at (dense (length c.args.x.now)) c.args.rows.now c.loop-row.row-index c.as_slice.result.now (omega arith) (item-as c.args.rows.now c.loop-row.row-index c.row-item.result c.as_slice.result.now c.as_slice.ensures.items c.row-item.is)) c.loop-row.invariant
    (subst (λ (es : List Event). Passed es c.loop-row.counter.taken c.meets_side.new.counter.taken) (ap (λ (z : ℚ). side_events (dense (length c.args.x.now) c.as_slice.result.now) c.args.x.now z) c.from.ensures) record { none = c.in_ok-meets_side.ensures.0; count = c.in_ok-meets_side.ensures.1 })
