use Rattle.std.proofs.Common.{rules, sym, subst, ap, arith, ◌≡◌, ◌+◌, ◌-◌, ◌*◌, ℕ, List, drop, ◌==◌}
use Rattle.std.specs.List.{enumerate_from}
use Rattle.frac128.specs.Held.{is_held}
use Rattle.log_rules.specs.Events.{Event}
use Rattle.log_rules.specs.Runs.{Stops, steps}
use Rattle.entry_checks.specs.Parts.{corner_events}
use Rattle.entry_checks.proofs.Going.{Passed, at-room, at-stop, at-more, at-end}
use Rattle.std.proofs.Common.{take}
use Rattle.upper_image.specs.Spots.{pieces}
use Rattle.entry_checks.proofs.RisingNumbers.{numbered-next, length-numbered, length-pieces, pieces-at}
use Rattle.entry_checks.proofs.corner.meets_directions.Goals as goal

pub meets_direction-requires-clause-room : goal.meets_direction-requires-clause-room
meets_direction-requires-clause-room c =
    let long = length-numbered 1 (pieces c.args.count c.args.objs c.args.directions.now) in
    let many = length-pieces c.args.count c.args.objs c.args.directions.now in
    let step : c.loop-a.a * c.args.objs + c.args.objs - c.loop-a.a * c.args.objs ≡ c.args.objs = omega arith in
    let most = at-room (λ d. corner_events c.args.w.now (d.0 == c.args.number) d.1) (enumerate_from 1 (pieces c.args.count c.args.objs c.args.directions.now)) c.args.counter.now.taken c.loop-a.a c.loop-a.counter.taken ((c.loop-a.a + 1, take c.args.objs (drop (c.loop-a.a * c.args.objs) c.args.directions.now))) (omega (arith, long, many)) (numbered-next (pieces c.args.count c.args.objs c.args.directions.now) c.loop-a.a (take c.args.objs (drop (c.loop-a.a * c.args.objs) c.args.directions.now)) (omega (arith, many)) (sym (pieces-at c.args.count c.args.objs c.loop-a.a c.args.directions.now (take c.args.objs (drop (c.loop-a.a * c.args.objs) c.args.directions.now)) (omega arith)))) c.loop-a.invariant in
    let same = ap steps (ap (λ (k : ℕ). corner_events c.args.w.now (c.loop-a.a + 1 == c.args.number) (take k (drop (c.loop-a.a * c.args.objs) c.args.directions.now))) step) in
    let room = c.requires.room in
    omega (arith, most, room, same)

pub returns-in_err-meets_direction : goal.returns-in_err-meets_direction
returns-in_err-meets_direction c =
    let long = length-numbered 1 (pieces c.args.count c.args.objs c.args.directions.now) in
    let many = length-pieces c.args.count c.args.objs c.args.directions.now in
    let step : c.loop-a.a * c.args.objs + c.args.objs - c.loop-a.a * c.args.objs ≡ c.args.objs = omega arith in
    let stopped = at-stop (λ d. corner_events c.args.w.now (d.0 == c.args.number) d.1) (enumerate_from 1 (pieces c.args.count c.args.objs c.args.directions.now)) c.args.counter.now.taken c.loop-a.a c.loop-a.counter.taken ((c.loop-a.a + 1, take c.args.objs (drop (c.loop-a.a * c.args.objs) c.args.directions.now))) c.in_err-meets_direction.field-0.0 (omega (arith, long, many)) (numbered-next (pieces c.args.count c.args.objs c.args.directions.now) c.loop-a.a (take c.args.objs (drop (c.loop-a.a * c.args.objs) c.args.directions.now)) (omega (arith, many)) (sym (pieces-at c.args.count c.args.objs c.loop-a.a c.args.directions.now (take c.args.objs (drop (c.loop-a.a * c.args.objs) c.args.directions.now)) (omega arith)))) c.loop-a.invariant (subst (λ (es : List Event). Stops is_held es c.loop-a.counter.taken c.in_err-meets_direction.field-0.0) (ap (λ (k : ℕ). corner_events c.args.w.now (c.loop-a.a + 1 == c.args.number) (take k (drop (c.loop-a.a * c.args.objs) c.args.directions.now))) step) c.in_err-meets_direction.ensures) in
    search (stopped, rules)

pub loop-a-preserved : goal.loop-a-preserved
loop-a-preserved c =
    let long = length-numbered 1 (pieces c.args.count c.args.objs c.args.directions.now) in
    let many = length-pieces c.args.count c.args.objs c.args.directions.now in
    let step : c.loop-a.a * c.args.objs + c.args.objs - c.loop-a.a * c.args.objs ≡ c.args.objs = omega arith in
    at-more (λ d. corner_events c.args.w.now (d.0 == c.args.number) d.1) (enumerate_from 1 (pieces c.args.count c.args.objs c.args.directions.now)) c.args.counter.now.taken c.loop-a.a c.loop-a.counter.taken c.meets_direction.new.counter.taken ((c.loop-a.a + 1, take c.args.objs (drop (c.loop-a.a * c.args.objs) c.args.directions.now))) (omega (arith, long, many)) (numbered-next (pieces c.args.count c.args.objs c.args.directions.now) c.loop-a.a (take c.args.objs (drop (c.loop-a.a * c.args.objs) c.args.directions.now)) (omega (arith, many)) (sym (pieces-at c.args.count c.args.objs c.loop-a.a c.args.directions.now (take c.args.objs (drop (c.loop-a.a * c.args.objs) c.args.directions.now)) (omega arith)))) c.loop-a.invariant
    (subst (λ (es : List Event). Passed es c.loop-a.counter.taken c.meets_direction.new.counter.taken) (ap (λ (k : ℕ). corner_events c.args.w.now (c.loop-a.a + 1 == c.args.number) (take k (drop (c.loop-a.a * c.args.objs) c.args.directions.now))) step) record { none = c.in_ok-meets_direction.ensures.0; count = c.in_ok-meets_direction.ensures.1 })

pub returns : goal.returns
returns c =
    let long = length-numbered 1 (pieces c.args.count c.args.objs c.args.directions.now) in
    let many = length-pieces c.args.count c.args.objs c.args.directions.now in
    let step : c.loop-a.a * c.args.objs + c.args.objs - c.loop-a.a * c.args.objs ≡ c.args.objs = omega arith in
    let done = at-end (λ d. corner_events c.args.w.now (d.0 == c.args.number) d.1) (enumerate_from 1 (pieces c.args.count c.args.objs c.args.directions.now)) c.args.counter.now.taken c.loop-a.a c.loop-a.counter.taken (omega (arith, long, many)) c.loop-a.invariant in
    (done.none, done.count, tt)
