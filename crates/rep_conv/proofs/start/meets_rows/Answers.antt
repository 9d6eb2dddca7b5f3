use Rattle.std.proofs.Common.{rules, ℕ, ◌+◌, ◌<◌, ◌==◌, List, length, slice_index_or, sym, ap, ◌∙◌, subst, arith}
use Rattle.std.specs.List.{enumerate_from}
use Rattle.exact_field.specs.Rational.{ℚ}
use Rattle.frac128.specs.Held.{is_held}
use Rattle.log_rules.specs.Events.{Event}
use Rattle.log_rules.specs.Runs.{Stops, steps}
use Rattle.entry_checks.specs.Parts.{corner_events}
use Rattle.entry_checks.proofs.Going.{Passed, at-room, at-stop, at-more, at-end}
use Rattle.entry_checks.proofs.RisingNumbers.{length-numbered}
use Rattle.rep_conv.specs.Rows.{row_at}
use Rattle.rep_conv.proofs.EntrySteps.{below_at, named_next, row_read, row_wide}
use Rattle.rep_conv.proofs.start.meets_rows.Goals as goal

pub bounds-rows-place : goal.bounds-rows-place
bounds-rows-place c = below_at (length c.args.rows.now) c.args.named.now c.loop-i.i 0 c.requires.named (omega arith)

pub meets_direction-requires-clause-lengths : goal.meets_direction-requires-clause-lengths
meets_direction-requires-clause-lengths c =
    let k = slice_index_or c.args.named.now c.loop-i.i 0 in
    let inside : k < length c.args.rows.now = below_at (length c.args.rows.now) c.args.named.now c.loop-i.i 0 c.requires.named (omega arith) in
    ap length (c.as_slice-row.ensures.items ∙ c.index-rows-place.is ∙ row_read c.args.rep.now c.args.rows.now k c.index-rows-place.result c.requires.rows inside)
    ∙ row_wide c.args.rep.now c.args.rows.now k c.requires.rows inside ∙ sym c.requires.width

pub meets_direction-requires-clause-room : goal.meets_direction-requires-clause-room
meets_direction-requires-clause-room c =
    let k = slice_index_or c.args.named.now c.loop-i.i 0 in
    let inside : k < length c.args.rows.now = below_at (length c.args.rows.now) c.args.named.now c.loop-i.i 0 c.requires.named (omega arith) in
    let long = length-numbered 1 c.args.named.now in
    let most = at-room (λ (row : ℕ × ℕ). corner_events (row_at c.args.rep.now row.1) (row.0 == c.args.number) c.args.generator.now) (enumerate_from 1 c.args.named.now) c.args.counter.now.taken c.loop-i.i c.loop-i.counter.taken
    (c.loop-i.i + 1, k) (omega (arith, long)) (named_next c.args.named.now c.loop-i.i (omega arith)) c.loop-i.invariant in
    let same = ap steps (ap (λ (v : List ℚ). corner_events v (c.loop-i.i + 1 == c.args.number) c.args.generator.now) (c.as_slice-row.ensures.items ∙ c.index-rows-place.is ∙ row_read c.args.rep.now c.args.rows.now k c.index-rows-place.result c.requires.rows inside)) in
    let room = c.requires.room in
    omega (arith, most, same, room)

pub returns-in_err-meets_direction : goal.returns-in_err-meets_direction
returns-in_err-meets_direction c =
    let k = slice_index_or c.args.named.now c.loop-i.i 0 in
    let inside : k < length c.args.rows.now = below_at (length c.args.rows.now) c.args.named.now c.loop-i.i 0 c.requires.named (omega arith) in
    let long = length-numbered 1 c.args.named.now in
    let stopped = at-stop (λ (row : ℕ × ℕ). corner_events (row_at c.args.rep.now row.1) (row.0 == c.args.number) c.args.generator.now) (enumerate_from 1 c.args.named.now) c.args.counter.now.taken c.loop-i.i c.loop-i.counter.taken
    (c.loop-i.i + 1, k) c.in_err-meets_direction.field-0.0 (omega (arith, long)) (named_next c.args.named.now c.loop-i.i (omega arith)) c.loop-i.invariant
    (subst (λ (es : List Event). Stops is_held es c.loop-i.counter.taken c.in_err-meets_direction.field-0.0)
    (ap (λ (v : List ℚ). corner_events v (c.loop-i.i + 1 == c.args.number) c.args.generator.now) (c.as_slice-row.ensures.items ∙ c.index-rows-place.is ∙ row_read c.args.rep.now c.args.rows.now k c.index-rows-place.result c.requires.rows inside)) c.in_err-meets_direction.ensures) in
    search (stopped, rules)

pub loop-i-preserved : goal.loop-i-preserved
loop-i-preserved c =
    let k = slice_index_or c.args.named.now c.loop-i.i 0 in
    let inside : k < length c.args.rows.now = below_at (length c.args.rows.now) c.args.named.now c.loop-i.i 0 c.requires.named (omega arith) in
    let long = length-numbered 1 c.args.named.now in
    at-more (λ (row : ℕ × ℕ). corner_events (row_at c.args.rep.now row.1) (row.0 == c.args.number) c.args.generator.now) (enumerate_from 1 c.args.named.now) c.args.counter.now.taken c.loop-i.i c.loop-i.counter.taken c.meets_direction.new.counter.taken
    (c.loop-i.i + 1, k) (omega (arith, long)) (named_next c.args.named.now c.loop-i.i (omega arith)) c.loop-i.invariant
    (subst (λ (es : List Event). Passed es c.loop-i.counter.taken c.meets_direction.new.counter.taken)
    (ap (λ (v : List ℚ). corner_events v (c.loop-i.i + 1 == c.args.number) c.args.generator.now) (c.as_slice-row.ensures.items ∙ c.index-rows-place.is ∙ row_read c.args.rep.now c.args.rows.now k c.index-rows-place.result c.requires.rows inside))
    record { none = c.in_ok-meets_direction.ensures.0; count = c.in_ok-meets_direction.ensures.1 })

pub returns : goal.returns
returns c =
    let long = length-numbered 1 c.args.named.now in
    let done = at-end (λ (row : ℕ × ℕ). corner_events (row_at c.args.rep.now row.1) (row.0 == c.args.number) c.args.generator.now) (enumerate_from 1 c.args.named.now) c.args.counter.now.taken c.loop-i.i c.loop-i.counter.taken (omega (arith, long)) c.loop-i.invariant in
    (done.none, done.count, tt)
