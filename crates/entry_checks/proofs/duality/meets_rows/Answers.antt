use Rattle.std.proofs.Common.{rules, arith}
use Rattle.entry_checks.specs.Parts.{row_events}
use Rattle.entry_checks.proofs.Going.{at-room, at-stop, at-more}
use Rattle.vlp_matrices.proofs.Lists.{item-as}
use Rattle.entry_checks.proofs.duality.meets_rows.Goals as goal

pub meets_row-requires-clause-room : goal.meets_row-requires-clause-room
meets_row-requires-clause-room c =
    let most = at-room (row_events c.args.c.now) (c.args.rows.now) c.args.counter.now.taken c.loop-row.row-index c.loop-row.counter.taken (c.as_slice.result.now) (omega arith) (item-as c.args.rows.now c.loop-row.row-index c.row-item.result c.as_slice.result.now c.as_slice.ensures.items c.row-item.is) c.loop-row.invariant in
    let room = c.requires.room in
    omega (arith, most, room)

pub returns-in_err-meets_row : goal.returns-in_err-meets_row
returns-in_err-meets_row c =
    let stopped = at-stop (row_events c.args.c.now) (c.args.rows.now) c.args.counter.now.taken c.loop-row.row-index c.loop-row.counter.taken (c.as_slice.result.now) c.in_err-meets_row.field-0.0 (omega arith) (item-as c.args.rows.now c.loop-row.row-index c.row-item.result c.as_slice.result.now c.as_slice.ensures.items c.row-item.is) c.loop-row.invariant c.in_err-meets_row.ensures in
    search (stopped, rules)

pub loop-row-preserved : goal.loop-row-preserved
loop-row-preserved c =
    at-more (row_events c.args.c.now) (c.args.rows.now) c.args.counter.now.taken c.loop-row.row-index c.loop-row.counter.taken c.meets_row.new.counter.taken (c.as_slice.result.now) (omega arith) (item-as c.args.rows.now c.loop-row.row-index c.row-item.result c.as_slice.result.now c.as_slice.ensures.items c.row-item.is) c.loop-row.invariant
    record { none = c.in_ok-meets_row.ensures.0; count = c.in_ok-meets_row.ensures.1 }
