use Rattle.std.proofs.Common.{◌∙◌, arith}
use Rattle.lin_rows.proofs.Errors.{err_holds}
use Rattle.exact_simplex.specs.Ends.{IsSystemFault}
use Rattle.lin_rows.specs.System.{system_of}
use Rattle.exact_simplex.proofs.Programs.{right_column_is}
use Rattle.exact_simplex.proofs.OpeningTurns.{opening_begins, opening_ends, turn_inside, turn_high, turn_pivot, turn_fault, turn_held, turn_opened}
use Rattle.exact_simplex.proofs.opening.open.Goals as goal

pub loop-i-init : goal.loop-i-init
loop-i-init g c =
    let value = g.F.Field.value in
    record {
      held = c.requires.unopened.held;
      opened = opening_begins value c.args.system.now c.requires.lengths c.args.tableau c.requires.unopened;
    }

pub artificial_column-col-requires-clause-width : goal.artificial_column-col-requires-clause-width
artificial_column-col-requires-clause-width g c = c.loop-i.invariant.held.width ∙ right_column_is g.F.Field.value c.args.system.now c.requires.lengths

pub pivot-requires-clause-inside : goal.pivot-requires-clause-inside
pivot-requires-clause-inside g c =
    turn_inside g.F.Field.value c.args.system.now c.requires.lengths c.loop-i.tableau c.loop-i.invariant.held c.loop-i.i (omega arith) c.loop-i.invariant.opened c.artificial_column-col.result c.artificial_column-col.ensures

pub pivot-requires-clause-high : goal.pivot-requires-clause-high
pivot-requires-clause-high g c =
    turn_high g.F.Field.value c.args.system.now c.requires.lengths c.loop-i.tableau c.loop-i.invariant.held c.loop-i.i (omega arith) c.loop-i.invariant.opened c.artificial_column-col.result c.artificial_column-col.ensures

pub pivot-requires-clause-pivot : goal.pivot-requires-clause-pivot
pivot-requires-clause-pivot g c =
    turn_pivot g.F.Field.value c.args.system.now c.requires.lengths c.loop-i.tableau c.loop-i.invariant.held c.loop-i.i (omega arith) c.loop-i.invariant.opened c.artificial_column-col.result c.artificial_column-col.ensures

pub returns-in_err-tableau-clause-left : goal.returns-in_err-tableau-clause-left
returns-in_err-tableau-clause-left g c =
    let value = g.F.Field.value in
    let holds = g.F.Field.holds in
    let fault = c.in_err-tableau.field-0.0 in
    err_holds c.from_residual.result fault (IsSystemFault value holds (system_of value c.args.system.now)) c.from_residual.ensures.1
    (turn_fault value c.args.system.now c.requires.lengths c.loop-i.tableau c.loop-i.invariant.held c.loop-i.i (omega arith) c.loop-i.invariant.opened c.artificial_column-col.result c.artificial_column-col.ensures
    holds fault c.in_err-tableau.ensures.left)

pub loop-i-preserved : goal.loop-i-preserved
loop-i-preserved g c =
    let value = g.F.Field.value in
    let kept = c.loop-i.invariant in
    let is = c.in_ok-tableau.ensures.ok in
    record {
      held = turn_held value c.args.system.now c.requires.lengths c.loop-i.tableau kept.held c.loop-i.i (omega arith) kept.opened c.artificial_column-col.result c.artificial_column-col.ensures _ is;
      opened = turn_opened value c.args.system.now c.requires.lengths c.loop-i.tableau kept.held c.loop-i.i (omega arith) kept.opened c.artificial_column-col.result c.artificial_column-col.ensures _ is;
    }

pub returns-clause-ok : goal.returns-clause-ok
returns-clause-ok g c =
    opening_ends g.F.Field.value c.args.system.now c.requires.lengths c.loop-i.tableau c.loop-i.i (omega arith) c.loop-i.invariant.held c.loop-i.invariant.opened
