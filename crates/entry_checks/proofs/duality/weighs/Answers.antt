use Rattle.std.proofs.Common.{rules, subst, ap, arith, ◌+◌, List, length}
use Rattle.exact_field.specs.Rational.{ℚ}
use Rattle.exact_field.specs.Vector.{entry}
use Rattle.frac128.specs.Held.{is_held}
use Rattle.log_rules.specs.Events.{Event}
use Rattle.log_rules.specs.Runs.{Stops, steps}
use Rattle.vlp_problem.specs.Sides.{numbers_from}
use Rattle.vlp_problem.proofs.Numbers.{length-numbers}
use Rattle.entry_checks.specs.Parts.{weight_events}
use Rattle.entry_checks.proofs.Going.{Passed, next-entry, next-number, at-room, at-stop, at-more, at-end}
use Rattle.entry_checks.proofs.duality.weighs.Goals as goal

pub weighs_at-requires-clause-room : goal.weighs_at-requires-clause-room
weighs_at-requires-clause-room c =
    let most = at-room (λ i. weight_events c.args.vectors.now c.args.weights.now (entry c.args.c.now i) i) (numbers_from 1 (length c.args.c.now)) c.args.counter.now.taken c.loop-i.i c.loop-i.counter.taken (c.loop-i.i + 1) (rw length-numbers (omega arith)) (next-number (length c.args.c.now) c.loop-i.i (omega arith)) c.loop-i.invariant in
    let same = ap steps (ap (λ (z : ℚ). weight_events c.args.vectors.now c.args.weights.now z (c.loop-i.i + 1)) (next-entry c.args.c.now c.loop-i.i c.index-c-i.result (omega arith) c.index-c-i.is)) in
    let room = c.requires.room in
    omega (arith, most, room, same)

pub returns-in_err-weighs_at : goal.returns-in_err-weighs_at
returns-in_err-weighs_at c =
    let stopped = at-stop (λ i. weight_events c.args.vectors.now c.args.weights.now (entry c.args.c.now i) i) (numbers_from 1 (length c.args.c.now)) c.args.counter.now.taken c.loop-i.i c.loop-i.counter.taken (c.loop-i.i + 1) c.in_err-weighs_at.field-0.0 (rw length-numbers (omega arith)) (next-number (length c.args.c.now) c.loop-i.i (omega arith)) c.loop-i.invariant (subst (λ (es : List Event). Stops is_held es c.loop-i.counter.taken c.in_err-weighs_at.field-0.0) (ap (λ (z : ℚ). weight_events c.args.vectors.now c.args.weights.now z (c.loop-i.i + 1)) (next-entry c.args.c.now c.loop-i.i c.index-c-i.result (omega arith) c.index-c-i.is)) c.in_err-weighs_at.ensures) in
    search (stopped, rules)

pub loop-i-preserved : goal.loop-i-preserved
loop-i-preserved c =
    at-more (λ i. weight_events c.args.vectors.now c.args.weights.now (entry c.args.c.now i) i) (numbers_from 1 (length c.args.c.now)) c.args.counter.now.taken c.loop-i.i c.loop-i.counter.taken c.weighs_at.new.counter.taken (c.loop-i.i + 1) (rw length-numbers (omega arith)) (next-number (length c.args.c.now) c.loop-i.i (omega arith)) c.loop-i.invariant
    (subst (λ (es : List Event). Passed es c.loop-i.counter.taken c.weighs_at.new.counter.taken) (ap (λ (z : ℚ). weight_events c.args.vectors.now c.args.weights.now z (c.loop-i.i + 1)) (next-entry c.args.c.now c.loop-i.i c.index-c-i.result (omega arith) c.index-c-i.is)) record { none = c.in_ok-weighs_at.ensures.0; count = c.in_ok-weighs_at.ensures.1 })

pub returns : goal.returns
returns c =
    let done = at-end (λ i. weight_events c.args.vectors.now c.args.weights.now (entry c.args.c.now i) i) (numbers_from 1 (length c.args.c.now)) c.args.counter.now.taken c.loop-i.i c.loop-i.counter.taken (rw length-numbers (omega arith)) c.loop-i.invariant in
    (done.none, done.count, tt)
