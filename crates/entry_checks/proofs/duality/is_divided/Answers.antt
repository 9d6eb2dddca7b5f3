use Rattle.std.proofs.Common.{rules, subst, ap, ap₂, arith, ◌+◌, List, length}
use Rattle.exact_field.specs.Rational.{ℚ}
use Rattle.exact_field.specs.Vector.{entry}
use Rattle.frac128.specs.Held.{is_held}
use Rattle.log_rules.specs.Events.{Event}
use Rattle.log_rules.specs.Runs.{Stops, steps}
use Rattle.vlp_problem.specs.Sides.{numbers_from}
use Rattle.vlp_problem.proofs.Numbers.{length-numbers}
use Rattle.entry_checks.specs.Parts.{quotient_events}
use Rattle.entry_checks.proofs.Going.{Passed, next-entry, next-number, at-room, at-stop, at-more, at-end}
use Rattle.entry_checks.proofs.duality.is_divided.Goals as goal

pub is_quotient-requires-clause-room : goal.is_quotient-requires-clause-room
is_quotient-requires-clause-room c =
    let most = at-room (λ i. quotient_events c.args.divisor (entry c.args.f.now i) (entry c.args.c.now i)) (numbers_from 1 (length c.args.f.now)) c.args.counter.now.taken c.loop-i.i c.loop-i.counter.taken (c.loop-i.i + 1) (rw length-numbers (omega arith)) (next-number (length c.args.f.now) c.loop-i.i (omega arith)) c.loop-i.invariant in
    let same = ap steps (ap₂ (λ (a b : ℚ). quotient_events c.args.divisor a b) (next-entry c.args.f.now c.loop-i.i c.index-f-i.result (omega arith) c.index-f-i.is) (next-entry c.args.c.now c.loop-i.i c.index-c-i.result (let long = c.requires.lengths in omega (arith, long)) c.index-c-i.is)) in
    let room = c.requires.room in
    omega (arith, most, room, same)

pub returns-in_err-is_quotient : goal.returns-in_err-is_quotient
returns-in_err-is_quotient c =
    let stopped = at-stop (λ i. quotient_events c.args.divisor (entry c.args.f.now i) (entry c.args.c.now i)) (numbers_from 1 (length c.args.f.now)) c.args.counter.now.taken c.loop-i.i c.loop-i.counter.taken (c.loop-i.i + 1) c.in_err-is_quotient.field-0.0 (rw length-numbers (omega arith)) (next-number (length c.args.f.now) c.loop-i.i (omega arith)) c.loop-i.invariant (subst (λ (es : List Event). Stops is_held es c.loop-i.counter.taken c.in_err-is_quotient.field-0.0) (ap₂ (λ (a b : ℚ). quotient_events c.args.divisor a b) (next-entry c.args.f.now c.loop-i.i c.index-f-i.result (omega arith) c.index-f-i.is) (next-entry c.args.c.now c.loop-i.i c.index-c-i.result (let long = c.requires.lengths in omega (arith, long)) c.index-c-i.is)) c.in_err-is_quotient.ensures) in
    search (stopped, rules)

pub loop-i-preserved : goal.loop-i-preserved
loop-i-preserved c =
    at-more (λ i. quotient_events c.args.divisor (entry c.args.f.now i) (entry c.args.c.now i)) (numbers_from 1 (length c.args.f.now)) c.args.counter.now.taken c.loop-i.i c.loop-i.counter.taken c.is_quotient.new.counter.taken (c.loop-i.i + 1) (rw length-numbers (omega arith)) (next-number (length c.args.f.now) c.loop-i.i (omega arith)) c.loop-i.invariant
    (subst (λ (es : List Event). Passed es c.loop-i.counter.taken c.is_quotient.new.counter.taken) (ap₂ (λ (a b : ℚ). quotient_events c.args.divisor a b) (next-entry c.args.f.now c.loop-i.i c.index-f-i.result (omega arith) c.index-f-i.is) (next-entry c.args.c.now c.loop-i.i c.index-c-i.result (let long = c.requires.lengths in omega (arith, long)) c.index-c-i.is)) record { none = c.in_ok-is_quotient.ensures.0; count = c.in_ok-is_quotient.ensures.1 })

pub returns : goal.returns
returns c =
    let done = at-end (λ i. quotient_events c.args.divisor (entry c.args.f.now i) (entry c.args.c.now i)) (numbers_from 1 (length c.args.f.now)) c.args.counter.now.taken c.loop-i.i c.loop-i.counter.taken (rw length-numbers (omega arith)) c.loop-i.invariant in
    (done.none, done.count, tt)
