use Rattle.std.proofs.Common.{rules, ◌≡◌, List, ap, ◌∙◌, subst, arith, length}
use Rattle.std.proofs.lemmas.List.Elements.{All-get_or}
use Rattle.exact_field.specs.Rational.{ℚ}
use Rattle.frac128.specs.Held.{is_held}
use Rattle.log_rules.specs.Events.{Event}
use Rattle.log_rules.specs.Runs.{Stops, steps}
use Rattle.entry_checks.proofs.Going.{Passed, at-room, at-stop, at-more, at-end}
use Rattle.rep_conv.specs.Events.{tight_events}
use Rattle.rep_conv.proofs.line.are_tight.Goals as goal

pub is_tight-requires-clause-lengths : goal.is_tight-requires-clause-lengths
is_tight-requires-clause-lengths c =
    ap length (c.as_slice.ensures.items ∙ c.row-item.is) ∙ All-get_or (λ (r : List ℚ). length r ≡ length c.args.d.now) c.args.rows.now c.loop-row.row-index c.row-item.result (omega arith) c.requires.widths

pub is_tight-requires-clause-room : goal.is_tight-requires-clause-room
is_tight-requires-clause-room c =
    let most = at-room (tight_events c.args.d.now) c.args.rows.now c.args.counter.now.taken c.loop-row.row-index c.loop-row.counter.taken c.row-item.result (omega arith) c.row-item.is c.loop-row.invariant in
    let same = ap steps (ap (tight_events c.args.d.now) c.as_slice.ensures.items) in
    let room = c.requires.room in
    omega (arith, most, same, room)

pub returns-in_err-is_tight : goal.returns-in_err-is_tight
returns-in_err-is_tight c =
    let stopped = at-stop (tight_events c.args.d.now) c.args.rows.now c.args.counter.now.taken c.loop-row.row-index c.loop-row.counter.taken c.row-item.result c.in_err-is_tight.field-0.0 (omega arith) c.row-item.is c.loop-row.invariant
    (subst (λ (es : List Event). Stops is_held es c.loop-row.counter.taken c.in_err-is_tight.field-0.0) (ap (tight_events c.args.d.now) c.as_slice.ensures.items) c.in_err-is_tight.ensures) in
    search (stopped, rules)

pub loop-row-preserved : goal.loop-row-preserved
loop-row-preserved c =
    at-more (tight_events c.args.d.now) c.args.rows.now c.args.counter.now.taken c.loop-row.row-index c.loop-row.counter.taken c.is_tight.new.counter.taken c.row-item.result (omega arith) c.row-item.is c.loop-row.invariant
    (subst (λ (es : List Event). Passed es c.loop-row.counter.taken c.is_tight.new.counter.taken) (ap (tight_events c.args.d.now) c.as_slice.ensures.items) record { none = c.in_ok-is_tight.ensures.0; count = c.in_ok-is_tight.ensures.1 })

pub returns : goal.returns
returns c =
    let done = at-end (tight_events c.args.d.now) c.args.rows.now c.args.counter.now.taken c.loop-row.row-index c.loop-row.counter.taken (omega arith) c.loop-row.invariant in
    (done.none, done.count, tt)
