use Rattle.std.proofs.Common.{rules, subst, ap, arith, ◌+◌, List, map}
use Rattle.std.specs.List.{enumerate_from}
use Rattle.std.proofs.lemmas.List.{length-map}
use Rattle.exact_field.specs.Rational.{ℚ}
use Rattle.frac128.specs.Held.{is_held}
use Rattle.log_rules.specs.Events.{Event}
use Rattle.log_rules.specs.Runs.{Stops, steps}
use Rattle.entry_checks.specs.Parts.{corners_events}
use Rattle.entry_checks.proofs.Going.{Passed, at-room, at-stop, at-more, at-end}
use Rattle.upper_image.specs.Spots.{pieces}
use Rattle.log_rules.specs.Live.{cut_at}
use Rattle.entry_checks.specs.Cuts.{stated, named_from}
use Rattle.entry_checks.proofs.RisingNumbers.{numbered-next, length-numbered}
use Rattle.entry_checks.proofs.NamedCuts.{cut-named}
use Rattle.entry_checks.proofs.corner.meet_directions.Goals as goal

pub meets_directions-requires-clause-room : goal.meets_directions-requires-clause-room
meets_directions-requires-clause-room c =
    let all = length-map c.args.named.now (cut_at (map stated c.args.cuts.now)) in
    let long = length-numbered 1 (named_from (map stated c.args.cuts.now) c.args.named.now) in
    let most = at-room (λ d. corners_events (pieces c.args.count c.args.objs c.args.directions.now) d.1.w d.0) (enumerate_from 1 (named_from (map stated c.args.cuts.now) c.args.named.now)) c.args.counter.now.taken c.loop-k.k c.loop-k.counter.taken ((c.loop-k.k + 1, stated c.index-cuts-number.result)) (omega (arith, all, long)) (numbered-next (named_from (map stated c.args.cuts.now) c.args.named.now) c.loop-k.k (stated c.index-cuts-number.result) (omega (arith, all)) (cut-named c.args.cuts.now c.args.named.now c.loop-k.k c.index-cuts-number.result c.requires.named (omega arith) c.index-cuts-number.is)) c.loop-k.invariant in
    let same = ap steps (ap (λ (w : List ℚ). corners_events (pieces c.args.count c.args.objs c.args.directions.now) w (c.loop-k.k + 1)) c.as_slice.ensures.items) in
    let room = c.requires.room in
    omega (arith, most, room, same)

pub returns-in_err-meets_directions : goal.returns-in_err-meets_directions
returns-in_err-meets_directions c =
    let all = length-map c.args.named.now (cut_at (map stated c.args.cuts.now)) in
    let long = length-numbered 1 (named_from (map stated c.args.cuts.now) c.args.named.now) in
    let stopped = at-stop (λ d. corners_events (pieces c.args.count c.args.objs c.args.directions.now) d.1.w d.0) (enumerate_from 1 (named_from (map stated c.args.cuts.now) c.args.named.now)) c.args.counter.now.taken c.loop-k.k c.loop-k.counter.taken ((c.loop-k.k + 1, stated c.index-cuts-number.result)) c.in_err-meets_directions.field-0.0 (omega (arith, all, long)) (numbered-next (named_from (map stated c.args.cuts.now) c.args.named.now) c.loop-k.k (stated c.index-cuts-number.result) (omega (arith, all)) (cut-named c.args.cuts.now c.args.named.now c.loop-k.k c.index-cuts-number.result c.requires.named (omega arith) c.index-cuts-number.is)) c.loop-k.invariant (subst (λ (es : List Event). Stops is_held es c.loop-k.counter.taken c.in_err-meets_directions.field-0.0) (ap (λ (w : List ℚ). corners_events (pieces c.args.count c.args.objs c.args.directions.now) w (c.loop-k.k + 1)) c.as_slice.ensures.items) c.in_err-meets_directions.ensures) in
    search (stopped, rules)

pub loop-k-preserved : goal.loop-k-preserved
loop-k-preserved c =
    let all = length-map c.args.named.now (cut_at (map stated c.args.cuts.now)) in
    let long = length-numbered 1 (named_from (map stated c.args.cuts.now) c.args.named.now) in
    at-more (λ d. corners_events (pieces c.args.count c.args.objs c.args.directions.now) d.1.w d.0) (enumerate_from 1 (named_from (map stated c.args.cuts.now) c.args.named.now)) c.args.counter.now.taken c.loop-k.k c.loop-k.counter.taken c.meets_directions.new.counter.taken ((c.loop-k.k + 1, stated c.index-cuts-number.result)) (omega (arith, all, long)) (numbered-next (named_from (map stated c.args.cuts.now) c.args.named.now) c.loop-k.k (stated c.index-cuts-number.result) (omega (arith, all)) (cut-named c.args.cuts.now c.args.named.now c.loop-k.k c.index-cuts-number.result c.requires.named (omega arith) c.index-cuts-number.is)) c.loop-k.invariant
    (subst (λ (es : List Event). Passed es c.loop-k.counter.taken c.meets_directions.new.counter.taken) (ap (λ (w : List ℚ). corners_events (pieces c.args.count c.args.objs c.args.directions.now) w (c.loop-k.k + 1)) c.as_slice.ensures.items) record { none = c.in_ok-meets_directions.ensures.0; count = c.in_ok-meets_directions.ensures.1 })

pub returns : goal.returns
returns c =
    let all = length-map c.args.named.now (cut_at (map stated c.args.cuts.now)) in
    let long = length-numbered 1 (named_from (map stated c.args.cuts.now) c.args.named.now) in
    let done = at-end (λ d. corners_events (pieces c.args.count c.args.objs c.args.directions.now) d.1.w d.0) (enumerate_from 1 (named_from (map stated c.args.cuts.now) c.args.named.now)) c.args.counter.now.taken c.loop-k.k c.loop-k.counter.taken (omega (arith, all, long)) c.loop-k.invariant in
    (done.none, done.count, tt)
