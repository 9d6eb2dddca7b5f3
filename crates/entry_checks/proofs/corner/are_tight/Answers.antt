use Rattle.std.proofs.Common.{rules, subst, ap, arith, List, map}
use Rattle.std.proofs.lemmas.List.{length-map}
use Rattle.exact_field.specs.Rational.{ℚ}
use Rattle.frac128.specs.Held.{is_held}
use Rattle.log_rules.specs.Events.{Event}
use Rattle.log_rules.specs.Runs.{Stops, steps}
use Rattle.entry_checks.specs.Parts.{tight_events}
use Rattle.entry_checks.proofs.Going.{Passed, at-room, at-stop, at-more, at-end}
use Rattle.log_rules.specs.Live.{cut_at}
use Rattle.entry_checks.specs.Cuts.{stated, named_from}
use Rattle.entry_checks.proofs.NamedCuts.{cut-named}
use Rattle.entry_checks.proofs.corner.are_tight.Goals as goal

pub is_tight-requires-clause-room : goal.is_tight-requires-clause-room
is_tight-requires-clause-room c =
    let all = length-map c.args.named.now (cut_at (map stated c.args.cuts.now)) in
    let most = at-room (λ cut. tight_events c.args.point.now cut.w cut.gamma) (named_from (map stated c.args.cuts.now) c.args.named.now) c.args.counter.now.taken c.loop-number.number-index c.loop-number.counter.taken (stated c.index-cuts-number.result) (omega (arith, all)) (cut-named c.args.cuts.now c.args.named.now c.loop-number.number-index c.index-cuts-number.result c.requires.named (omega arith) c.index-cuts-number.is) c.loop-number.invariant in
    let same = ap steps (ap (λ (w : List ℚ). tight_events c.args.point.now w c.index-cuts-number.result.gamma) c.as_slice.ensures.items) in
    let room = c.requires.room in
    omega (arith, most, room, same)

pub returns-in_err-is_tight : goal.returns-in_err-is_tight
returns-in_err-is_tight c =
    let all = length-map c.args.named.now (cut_at (map stated c.args.cuts.now)) in
    let stopped = at-stop (λ cut. tight_events c.args.point.now cut.w cut.gamma) (named_from (map stated c.args.cuts.now) c.args.named.now) c.args.counter.now.taken c.loop-number.number-index c.loop-number.counter.taken (stated c.index-cuts-number.result) c.in_err-is_tight.field-0.0 (omega (arith, all)) (cut-named c.args.cuts.now c.args.named.now c.loop-number.number-index c.index-cuts-number.result c.requires.named (omega arith) c.index-cuts-number.is) c.loop-number.invariant (subst (λ (es : List Event). Stops is_held es c.loop-number.counter.taken c.in_err-is_tight.field-0.0) (ap (λ (w : List ℚ). tight_events c.args.point.now w c.index-cuts-number.result.gamma) c.as_slice.ensures.items) c.in_err-is_tight.ensures) in
    search (stopped, rules)

pub loop-number-preserved : goal.loop-number-preserved
loop-number-preserved c =
    let all = length-map c.args.named.now (cut_at (map stated c.args.cuts.now)) in
    at-more (λ cut. tight_events c.args.point.now cut.w cut.gamma) (named_from (map stated c.args.cuts.now) c.args.named.now) c.args.counter.now.taken c.loop-number.number-index c.loop-number.counter.taken c.is_tight.new.counter.taken (stated c.index-cuts-number.result) (omega (arith, all)) (cut-named c.args.cuts.now c.args.named.now c.loop-number.number-index c.index-cuts-number.result c.requires.named (omega arith) c.index-cuts-number.is) c.loop-number.invariant
    (subst (λ (es : List Event). Passed es c.loop-number.counter.taken c.is_tight.new.counter.taken) (ap (λ (w : List ℚ). tight_events c.args.point.now w c.index-cuts-number.result.gamma) c.as_slice.ensures.items) record { none = c.in_ok-is_tight.ensures.0; count = c.in_ok-is_tight.ensures.1 })

pub returns : goal.returns
returns c =
    let all = length-map c.args.named.now (cut_at (map stated c.args.cuts.now)) in
    let done = at-end (λ cut. tight_events c.args.point.now cut.w cut.gamma) (named_from (map stated c.args.cuts.now) c.args.named.now) c.args.counter.now.taken c.loop-number.number-index c.loop-number.counter.taken (omega (arith, all)) c.loop-number.invariant in
    (done.none, done.count, tt)
