use Rattle.std.proofs.Common.{subst}
use Rattle.exact_field.specs.Rational.{ℚ}
use Rattle.frac128.specs.Held.{is_held}
use Rattle.double_descr.specs.Starting.{IsStartFault}
use Rattle.double_descr.specs.declared.fault.DdFault.TheVariants.{Elim as Starting}
use Rattle.lin_rows.specs.Read.{numbers}
use Rattle.rep_convert.proofs.Calls.{picked_many, picked_rank, short_picked, start_fault_here, start_here}
use Rattle.rep_convert.proofs.start.describe.Goals as goal

pub start-requires-clause-rank : goal.start-requires-clause-rank
start-requires-clause-rank c =
    let short = c.args.short.now in
    let rows = c.in_ok-rows.rows in
    picked_rank c.args.rep.now c.args.lines.now c.requires.lines short.width short.list c.requires.width c.requires.rows c.args.picks.now c.requires.starts
    rows.width rows.list c.in_ok-rows.ensures.width c.in_ok-rows.ensures.rows

pub returns-in-Ok-clause-start : goal.returns-in-Ok-clause-start
returns-in-Ok-clause-start c =
    let short = c.args.short.now in
    let rows = c.in_ok-rows.rows in
    start_here c.args.rep.now c.args.lines.now c.requires.lines short.width short.list c.requires.width c.requires.rows c.args.picks.now c.requires.starts
    rows.width rows.list c.in_ok-rows.ensures.width c.in_ok-rows.ensures.rows c.in-Ok.dd c.in-Ok.ensures.ok

pub returns-in-Err-Elim-clause-left : goal.returns-in-Err-Elim-clause-left
returns-in-Err-Elim-clause-left c =
    let rep = c.args.rep.now in
    let lines = c.args.lines.now in
    let short = c.args.short.now in
    let rows = c.in_ok-rows.rows in
    let w = c.in_ok-rows.ensures.width in
    let r = c.in_ok-rows.ensures.rows in
    c.row_left.ensures.start rep lines
    (short_picked rep lines c.requires.lines short.width short.list c.requires.width c.requires.rows c.args.picks.now c.requires.starts rows.width rows.list w r)
    (picked_many rep lines c.requires.lines short.width short.list c.requires.width c.requires.rows c.args.picks.now c.requires.starts rows.width rows.list w r)
    (start_fault_here rep lines c.requires.lines short.width short.list c.requires.width c.requires.rows c.args.picks.now c.requires.starts rows.width rows.list w r
    (Starting c.in-Err-Elim.fault)
    (subst (IsStartFault (λ (q : ℚ). q) is_held rows.width (numbers (λ (q : ℚ). q) rows.list)) c.in-Err-Elim.field-0-is c.in-Err-Elim.ensures.left))
