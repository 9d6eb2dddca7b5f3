use Rattle.std.proofs.Common.{rules, sym, subst, ap, arith, ◌≡◌, ◌+◌, ◌-◌, ◌*◌, ℕ, List, drop}
use Rattle.std.specs.List.{enumerate_from}
use Rattle.frac128.specs.Held.{is_held}
use Rattle.log_rules.specs.Events.{Event}
use Rattle.log_rules.specs.Runs.{Stops, steps}
use Rattle.entry_checks.specs.Parts.{units_events}
use Rattle.entry_checks.proofs.Going.{Passed, at-room, at-stop, at-more, at-end}
use Rattle.upper_image.specs.Shows.{picked}
use Rattle.upper_image.specs.Spots.{pieces}
use Rattle.std.proofs.Common.{take}
use Rattle.entry_checks.proofs.RisingNumbers.{numbered-next, length-numbered, length-pieces, pieces-at}
use Rattle.entry_checks.proofs.duality.inverts.Goals as goal

pub has_units-requires-clause-room : goal.has_units-requires-clause-room
has_units-requires-clause-room c =
    let long = length-numbered 1 (pieces c.args.objs c.args.objs c.args.inverse.now) in
    let many = length-pieces c.args.objs c.args.objs c.args.inverse.now in
    let step : c.loop-a.a * c.args.objs + c.args.objs - c.loop-a.a * c.args.objs ≡ c.args.objs = omega arith in
    let most = at-room (λ a. units_events (picked c.args.vectors.now c.args.picks.now) a.0 a.1) (enumerate_from 1 (pieces c.args.objs c.args.objs c.args.inverse.now)) c.args.counter.now.taken c.loop-a.a c.loop-a.counter.taken ((c.loop-a.a + 1, take c.args.objs (drop (c.loop-a.a * c.args.objs) c.args.inverse.now))) (omega (arith, long, many)) (numbered-next (pieces c.args.objs c.args.objs c.args.inverse.now) c.loop-a.a (take c.args.objs (drop (c.loop-a.a * c.args.objs) c.args.inverse.now)) (omega (arith, many)) (sym (pieces-at c.args.objs c.args.objs c.loop-a.a c.args.inverse.now (take c.args.objs (drop (c.loop-a.a * c.args.objs) c.args.inverse.now)) (omega arith)))) c.loop-a.invariant in
    let same = ap steps (ap (λ (k : ℕ). units_events (picked c.args.vectors.now c.args.picks.now) (c.loop-a.a + 1) (take k (drop (c.loop-a.a * c.args.objs) c.args.inverse.now))) step) in
    let room = c.requires.room in
    omega (arith, most, room, same)

pub returns-in_err-has_units : goal.returns-in_err-has_units
returns-in_err-has_units c =
    let long = length-numbered 1 (pieces c.args.objs c.args.objs c.args.inverse.now) in
    let many = length-pieces c.args.objs c.args.objs c.args.inverse.now in
    let step : c.loop-a.a * c.args.objs + c.args.objs - c.loop-a.a * c.args.objs ≡ c.args.objs = omega arith in
    let stopped = at-stop (λ a. units_events (picked c.args.vectors.now c.args.picks.now) a.0 a.1) (enumerate_from 1 (pieces c.args.objs c.args.objs c.args.inverse.now)) c.args.counter.now.taken c.loop-a.a c.loop-a.counter.taken ((c.loop-a.a + 1, take c.args.objs (drop (c.loop-a.a * c.args.objs) c.args.inverse.now))) c.in_err-has_units.field-0.0 (omega (arith, long, many)) (numbered-next (pieces c.args.objs c.args.objs c.args.inverse.now) c.loop-a.a (take c.args.objs (drop (c.loop-a.a * c.args.objs) c.args.inverse.now)) (omega (arith, many)) (sym (pieces-at c.args.objs c.args.objs c.loop-a.a c.args.inverse.now (take c.args.objs (drop (c.loop-a.a * c.args.objs) c.args.inverse.now)) (omega arith)))) c.loop-a.invariant (subst (λ (es : List Event). Stops is_held es c.loop-a.counter.taken c.in_err-has_units.field-0.0) (ap (λ (k : ℕ). units_events (picked c.args.vectors.now c.args.picks.now) (c.loop-a.a + 1) (take k (drop (c.loop-a.a * c.args.objs) c.args.inverse.now))) step) c.in_err-has_units.ensures) in
    search (stopped, rules)

pub loop-a-preserved : goal.loop-a-preserved
loop-a-preserved c =
    let long = length-numbered 1 (pieces c.args.objs c.args.objs c.args.inverse.now) in
    let many = length-pieces c.args.objs c.args.objs c.args.inverse.now in
    let step : c.loop-a.a * c.args.objs + c.args.objs - c.loop-a.a * c.args.objs ≡ c.args.objs = omega arith in
    at-more (λ a. units_events (picked c.args.vectors.now c.args.picks.now) a.0 a.1) (enumerate_from 1 (pieces c.args.objs c.args.objs c.args.inverse.now)) c.args.counter.now.taken c.loop-a.a c.loop-a.counter.taken c.has_units.new.counter.taken ((c.loop-a.a + 1, take c.args.objs (drop (c.loop-a.a * c.args.objs) c.args.inverse.now))) (omega (arith, long, many)) (numbered-next (pieces c.args.objs c.args.objs c.args.inverse.now) c.loop-a.a (take c.args.objs (drop (c.loop-a.a * c.args.objs) c.args.inverse.now)) (omega (arith, many)) (sym (pieces-at c.args.objs c.args.objs c.loop-a.a c.args.inverse.now (take c.args.objs (drop (c.loop-a.a * c.args.objs) c.args.inverse.now)) (omega arith)))) c.loop-a.invariant
    (subst (λ (es : List Event). Passed es c.loop-a.counter.taken c.has_units.new.counter.taken) (ap (λ (k : ℕ). units_events (picked c.args.vectors.now c.args.picks.now) (c.loop-a.a + 1) (take k (drop (c.loop-a.a * c.args.objs) c.args.inverse.now))) step) record { none = c.in_ok-has_units.ensures.0; count = c.in_ok-has_units.ensures.1 })

pub returns : goal.returns
returns c =
    let long = length-numbered 1 (pieces c.args.objs c.args.objs c.args.inverse.now) in
    let many = length-pieces c.args.objs c.args.objs c.args.inverse.now in
    let step : c.loop-a.a * c.args.objs + c.args.objs - c.loop-a.a * c.args.objs ≡ c.args.objs = omega arith in
    let done = at-end (λ a. units_events (picked c.args.vectors.now c.args.picks.now) a.0 a.1) (enumerate_from 1 (pieces c.args.objs c.args.objs c.args.inverse.now)) c.args.counter.now.taken c.loop-a.a c.loop-a.counter.taken (omega (arith, long, many)) c.loop-a.invariant in
    (done.none, done.count, tt)
