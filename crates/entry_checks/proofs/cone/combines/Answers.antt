use Rattle.std.proofs.Common.{rules, subst, ap, arith, ◌+◌, List, length}
use Rattle.exact_field.specs.Rational.{ℚ}
use Rattle.exact_field.specs.Vector.{entry}
use Rattle.frac128.specs.Held.{is_held}
use Rattle.log_rules.specs.Events.{Event}
use Rattle.log_rules.specs.Runs.{Stops, steps}
use Rattle.vlp_problem.specs.Sides.{numbers_from}
use Rattle.vlp_problem.proofs.Numbers.{length-numbers}
use Rattle.entry_checks.specs.Parts.{entry_events}
use Rattle.entry_checks.proofs.Going.{Passed, next-entry, next-number, at-room, at-stop, at-more, at-end}
use Rattle.entry_checks.proofs.cone.combines.Goals as goal

pub combines_at-requires-clause-room : goal.combines_at-requires-clause-room
combines_at-requires-clause-room c =
    let most = at-room (λ i. entry_events c.args.vectors.now c.args.m.now (entry c.args.e.now i) i) (numbers_from 1 (length c.args.e.now)) c.args.counter.now.taken c.loop-i.i c.loop-i.counter.taken (c.loop-i.i + 1) (rw length-numbers (omega arith)) (next-number (length c.args.e.now) c.loop-i.i (omega arith)) c.loop-i.invariant in
    let same = ap steps (ap (λ (z : ℚ). entry_events c.args.vectors.now c.args.m.now z (c.loop-i.i + 1)) (next-entry c.args.e.now c.loop-i.i c.index-e-i.result (omega arith) c.index-e-i.is)) in
    let room = c.requires.room in
    omega (arith, most, room, same)

pub returns-in_err-combines_at : goal.returns-in_err-combines_at
returns-in_err-combines_at c =
    let stopped = at-stop (λ i. entry_events c.args.vectors.now c.args.m.now (entry c.args.e.now i) i) (numbers_from 1 (length c.args.e.now)) c.args.counter.now.taken c.loop-i.i c.loop-i.counter.taken (c.loop-i.i + 1) c.in_err-combines_at.field-0.0 (rw length-numbers (omega arith)) (next-number (length c.args.e.now) c.loop-i.i (omega arith)) c.loop-i.invariant (subst (λ (es : List Event). Stops is_held es c.loop-i.counter.taken c.in_err-combines_at.field-0.0) (ap (λ (z : ℚ). entry_events c.args.vectors.now c.args.m.now z (c.loop-i.i + 1)) (next-entry c.args.e.now c.loop-i.i c.index-e-i.result (omega arith) c.index-e-i.is)) c.in_err-combines_at.ensures) in
    search (stopped, rules)

pub loop-i-preserved : goal.loop-i-preserved
loop-i-preserved c =
    at-more (λ i. entry_events c.args.vectors.now c.args.m.now (entry c.args.e.now i) i) (numbers_from 1 (length c.args.e.now)) c.args.counter.now.taken c.loop-i.i c.loop-i.counter.taken c.combines_at.new.counter.taken (c.loop-i.i + 1) (rw length-numbers (omega arith)) (next-number (length c.args.e.now) c.loop-i.i (omega arith)) c.loop-i.invariant
    (subst (λ (es : List Event). Passed es c.loop-i.counter.taken c.combines_at.new.counter.taken) (ap (λ (z : ℚ). entry_events c.args.vectors.now c.args.m.now z (c.loop-i.i + 1)) (next-entry c.args.e.now c.loop-i.i c.index-e-i.result (omega arith) c.index-e-i.is)) record { none = c.in_ok-combines_at.ensures.0; count = c.in_ok-combines_at.ensures.1 })

pub returns : goal.returns
returns c =
    let done = at-end (λ i. entry_events c.args.vectors.now c.args.m.now (entry c.args.e.now i) i) (numbers_from 1 (length c.args.e.now)) c.args.counter.now.taken c.loop-i.i c.loop-i.counter.taken (rw length-numbers (omega arith)) c.loop-i.invariant in
    (done.none, done.count, tt)
