use Rattle.std.proofs.Common.{◌+◌, subst, arith, ℕ, Option}
use Rattle.exact_field.specs.Rational.{zero_ℚ, ◌<ℚ◌}
use Rattle.exact_field.proofs.Inequalities.{lt-not-le}
use Rattle.tableaux.specs.Table.{at}
use Rattle.lin_rows.specs.Lines.{lines}
use Rattle.lin_rows.specs.Tableau.{Dictionary}
use Rattle.lin_rows.proofs.Errors.{err_holds}
use Rattle.exact_simplex.specs.Phase.{IsPhaseFault}
use Rattle.exact_simplex.specs.Ratios.{IsLeaving}
use Rattle.exact_simplex.proofs.PhaseTurns.{cost_there, line_rises, no_column, column_betters, no_row, test_inside, test_fault, pivot_inside, pivot_high, pivot_not_zero, pivot_fault, turn_more, turn_moved, turn_falls}
use Rattle.exact_simplex.proofs.phase.run_phase.Goals as goal

pub bounds-rows-cost : goal.bounds-rows-cost
bounds-rows-cost g c =
    let value = g.F.Field.value in
    let first = c.args.tableau in
    let now = c.loop-col.tableau in
    let kept = c.loop-col.invariant in
    let r = c.requires in
    omega (arith, cost_there value c.args.equations c.args.cost c.args.unknowns c.args.columns.now first now r.start kept.turn r.cost r.inside r.unknowns c.rows.result.now c.rows.ensures.rows c.rows.ensures.table)

pub give_up-requires : goal.give_up-requires
give_up-requires g c =
    let value = g.F.Field.value in
    let first = c.args.tableau in
    let now = c.loop-col.tableau in
    let kept = c.loop-col.invariant in
    let r = c.requires in
    let betters = column_betters value c.args.equations c.args.cost c.args.unknowns c.args.columns.now first now r.start kept.turn r.cost r.inside r.unknowns c.rows.result.now c.rows.ensures.rows c.rows.ensures.table c.deref.result.now c.index-rows-cost.result c.deref.ensures.value c.index-rows-cost.is
    c.in-Some.col (c.in-Some.ensures first.width (line_rises value c.args.equations c.args.cost c.args.unknowns c.args.columns.now first now r.start kept.turn r.cost r.inside r.unknowns c.rows.result.now c.rows.ensures.rows c.rows.ensures.table c.deref.result.now c.index-rows-cost.result c.deref.ensures.value c.index-rows-cost.is)) in
    test_inside value c.args.equations c.args.cost c.args.unknowns c.args.columns.now first now r.start kept.turn r.cost r.inside r.unknowns c.rows-in-Some.result.now c.rows-in-Some.ensures.rows c.rows-in-Some.ensures.table c.in-Some.col betters c.in-Err.test.row c.in-Err.ensures.row

pub returns-in-Err-clause-left : goal.returns-in-Err-clause-left
returns-in-Err-clause-left g c =
    let value = g.F.Field.value in
    let first = c.args.tableau in
    let now = c.loop-col.tableau in
    let kept = c.loop-col.invariant in
    let r = c.requires in
    let betters = column_betters value c.args.equations c.args.cost c.args.unknowns c.args.columns.now first now r.start kept.turn r.cost r.inside r.unknowns c.rows.result.now c.rows.ensures.rows c.rows.ensures.table c.deref.result.now c.index-rows-cost.result c.deref.ensures.value c.index-rows-cost.is
    c.in-Some.col (c.in-Some.ensures first.width (line_rises value c.args.equations c.args.cost c.args.unknowns c.args.columns.now first now r.start kept.turn r.cost r.inside r.unknowns c.rows.result.now c.rows.ensures.rows c.rows.ensures.table c.deref.result.now c.index-rows-cost.result c.deref.ensures.value c.index-rows-cost.is)) in
    test_fault value c.args.equations c.args.cost c.args.unknowns c.args.columns.now first now r.start kept.turn r.cost r.inside r.unknowns c.rows-in-Some.result.now c.rows-in-Some.ensures.rows c.rows-in-Some.ensures.table c.in-Some.col betters
    kept.moved g.F.Field.holds c.in-Err.test.row c.in-Err.test.left c.give_up.result c.in-Err.ensures.row c.in-Err.ensures.left c.give_up.ensures

pub returns-in-Ok-None-clause-end : goal.returns-in-Ok-None-clause-end
returns-in-Ok-None-clause-end g c =
    let value = g.F.Field.value in
    let first = c.args.tableau in
    let now = c.loop-col.tableau in
    let kept = c.loop-col.invariant in
    let r = c.requires in
    let betters = column_betters value c.args.equations c.args.cost c.args.unknowns c.args.columns.now first now r.start kept.turn r.cost r.inside r.unknowns c.rows.result.now c.rows.ensures.rows c.rows.ensures.table c.deref.result.now c.index-rows-cost.result c.deref.ensures.value c.index-rows-cost.is
    c.in-Some.col (c.in-Some.ensures first.width (line_rises value c.args.equations c.args.cost c.args.unknowns c.args.columns.now first now r.start kept.turn r.cost r.inside r.unknowns c.rows.result.now c.rows.ensures.rows c.rows.ensures.table c.deref.result.now c.index-rows-cost.result c.deref.ensures.value c.index-rows-cost.is)) in
    no_row value c.args.equations c.args.cost c.args.unknowns c.args.columns.now first now r.start kept.turn r.cost r.inside r.unknowns c.rows-in-Some.result.now c.rows-in-Some.ensures.rows c.rows-in-Some.ensures.table c.in-Some.col betters
    (subst (λ (o : Option ℕ). IsLeaving (lines value c.rows-in-Some.result.now) c.in-Some.col c.args.columns.now c.args.equations o) c.in-Ok-None.field-0-is c.in-Ok-None.ensures.ok)

pub returns-in-Ok-None-clause-still : goal.returns-in-Ok-None-clause-still
returns-in-Ok-None-clause-still g c =
    let value = g.F.Field.value in
    let first = c.args.tableau in
    let now = c.loop-col.tableau in
    let kept = c.loop-col.invariant in
    let r = c.requires in
    let betters = column_betters value c.args.equations c.args.cost c.args.unknowns c.args.columns.now first now r.start kept.turn r.cost r.inside r.unknowns c.rows.result.now c.rows.ensures.rows c.rows.ensures.table c.deref.result.now c.index-rows-cost.result c.deref.ensures.value c.index-rows-cost.is
    c.in-Some.col (c.in-Some.ensures first.width (line_rises value c.args.equations c.args.cost c.args.unknowns c.args.columns.now first now r.start kept.turn r.cost r.inside r.unknowns c.rows.result.now c.rows.ensures.rows c.rows.ensures.table c.deref.result.now c.index-rows-cost.result c.deref.ensures.value c.index-rows-cost.is)) in
    λ end. absurd (lt-not-le (at first.table (c.args.cost + 1) c.in-Some.col) zero_ℚ
    (subst (λ (t : Dictionary). at t.table (c.args.cost + 1) c.in-Some.col <ℚ zero_ℚ) (kept.still end) betters.2) (end c.in-Some.col betters.0 betters.1))

pub pivot-requires-clause-inside : goal.pivot-requires-clause-inside
pivot-requires-clause-inside g c =
    let value = g.F.Field.value in
    let first = c.args.tableau in
    let now = c.loop-col.tableau in
    let kept = c.loop-col.invariant in
    let r = c.requires in
    let betters = column_betters value c.args.equations c.args.cost c.args.unknowns c.args.columns.now first now r.start kept.turn r.cost r.inside r.unknowns c.rows.result.now c.rows.ensures.rows c.rows.ensures.table c.deref.result.now c.index-rows-cost.result c.deref.ensures.value c.index-rows-cost.is
    c.in-Some.col (c.in-Some.ensures first.width (line_rises value c.args.equations c.args.cost c.args.unknowns c.args.columns.now first now r.start kept.turn r.cost r.inside r.unknowns c.rows.result.now c.rows.ensures.rows c.rows.ensures.table c.deref.result.now c.index-rows-cost.result c.deref.ensures.value c.index-rows-cost.is)) in
    let found = subst (λ (o : Option ℕ). IsLeaving (lines value c.rows-in-Some.result.now) c.in-Some.col c.args.columns.now c.args.equations o) c.in-Ok-Some.field-0-is c.in-Ok-Some.ensures.ok in
    pivot_inside value c.args.equations c.args.cost c.args.unknowns c.args.columns.now first now r.start kept.turn r.cost r.inside r.unknowns c.rows-in-Some.result.now c.rows-in-Some.ensures.rows c.rows-in-Some.ensures.table c.in-Some.col betters c.in-Ok-Some.row found

pub pivot-requires-clause-low : goal.pivot-requires-clause-low
pivot-requires-clause-low g c =
    let value = g.F.Field.value in
    let first = c.args.tableau in
    let now = c.loop-col.tableau in
    let kept = c.loop-col.invariant in
    let r = c.requires in
    let betters = column_betters value c.args.equations c.args.cost c.args.unknowns c.args.columns.now first now r.start kept.turn r.cost r.inside r.unknowns c.rows.result.now c.rows.ensures.rows c.rows.ensures.table c.deref.result.now c.index-rows-cost.result c.deref.ensures.value c.index-rows-cost.is
    c.in-Some.col (c.in-Some.ensures first.width (line_rises value c.args.equations c.args.cost c.args.unknowns c.args.columns.now first now r.start kept.turn r.cost r.inside r.unknowns c.rows.result.now c.rows.ensures.rows c.rows.ensures.table c.deref.result.now c.index-rows-cost.result c.deref.ensures.value c.index-rows-cost.is)) in
    betters.0

pub pivot-requires-clause-high : goal.pivot-requires-clause-high
pivot-requires-clause-high g c =
    let value = g.F.Field.value in
    let first = c.args.tableau in
    let now = c.loop-col.tableau in
    let kept = c.loop-col.invariant in
    let r = c.requires in
    let betters = column_betters value c.args.equations c.args.cost c.args.unknowns c.args.columns.now first now r.start kept.turn r.cost r.inside r.unknowns c.rows.result.now c.rows.ensures.rows c.rows.ensures.table c.deref.result.now c.index-rows-cost.result c.deref.ensures.value c.index-rows-cost.is
    c.in-Some.col (c.in-Some.ensures first.width (line_rises value c.args.equations c.args.cost c.args.unknowns c.args.columns.now first now r.start kept.turn r.cost r.inside r.unknowns c.rows.result.now c.rows.ensures.rows c.rows.ensures.table c.deref.result.now c.index-rows-cost.result c.deref.ensures.value c.index-rows-cost.is)) in
    let found = subst (λ (o : Option ℕ). IsLeaving (lines value c.rows-in-Some.result.now) c.in-Some.col c.args.columns.now c.args.equations o) c.in-Ok-Some.field-0-is c.in-Ok-Some.ensures.ok in
    pivot_high value c.args.equations c.args.cost c.args.unknowns c.args.columns.now first now r.start kept.turn r.cost r.inside r.unknowns c.rows-in-Some.result.now c.rows-in-Some.ensures.rows c.rows-in-Some.ensures.table c.in-Some.col betters c.in-Ok-Some.row found

pub pivot-requires-clause-pivot : goal.pivot-requires-clause-pivot
pivot-requires-clause-pivot g c =
    let value = g.F.Field.value in
    let first = c.args.tableau in
    let now = c.loop-col.tableau in
    let kept = c.loop-col.invariant in
    let r = c.requires in
    let betters = column_betters value c.args.equations c.args.cost c.args.unknowns c.args.columns.now first now r.start kept.turn r.cost r.inside r.unknowns c.rows.result.now c.rows.ensures.rows c.rows.ensures.table c.deref.result.now c.index-rows-cost.result c.deref.ensures.value c.index-rows-cost.is
    c.in-Some.col (c.in-Some.ensures first.width (line_rises value c.args.equations c.args.cost c.args.unknowns c.args.columns.now first now r.start kept.turn r.cost r.inside r.unknowns c.rows.result.now c.rows.ensures.rows c.rows.ensures.table c.deref.result.now c.index-rows-cost.result c.deref.ensures.value c.index-rows-cost.is)) in
    let found = subst (λ (o : Option ℕ). IsLeaving (lines value c.rows-in-Some.result.now) c.in-Some.col c.args.columns.now c.args.equations o) c.in-Ok-Some.field-0-is c.in-Ok-Some.ensures.ok in
    pivot_not_zero value c.args.equations c.args.cost c.args.unknowns c.args.columns.now first now r.start kept.turn r.cost r.inside r.unknowns c.rows-in-Some.result.now c.rows-in-Some.ensures.rows c.rows-in-Some.ensures.table c.in-Some.col betters c.in-Ok-Some.row found

pub loop-col-smaller : goal.loop-col-smaller
loop-col-smaller g c =
    let value = g.F.Field.value in
    let first = c.args.tableau in
    let now = c.loop-col.tableau in
    let kept = c.loop-col.invariant in
    let r = c.requires in
    let betters = column_betters value c.args.equations c.args.cost c.args.unknowns c.args.columns.now first now r.start kept.turn r.cost r.inside r.unknowns c.rows.result.now c.rows.ensures.rows c.rows.ensures.table c.deref.result.now c.index-rows-cost.result c.deref.ensures.value c.index-rows-cost.is
    c.in-Some.col (c.in-Some.ensures first.width (line_rises value c.args.equations c.args.cost c.args.unknowns c.args.columns.now first now r.start kept.turn r.cost r.inside r.unknowns c.rows.result.now c.rows.ensures.rows c.rows.ensures.table c.deref.result.now c.index-rows-cost.result c.deref.ensures.value c.index-rows-cost.is)) in
    let found = subst (λ (o : Option ℕ). IsLeaving (lines value c.rows-in-Some.result.now) c.in-Some.col c.args.columns.now c.args.equations o) c.in-Ok-Some.field-0-is c.in-Ok-Some.ensures.ok in
    turn_falls value c.args.equations c.args.cost c.args.unknowns c.args.columns.now first now r.start kept.turn r.cost r.inside r.unknowns c.rows-in-Some.result.now c.rows-in-Some.ensures.rows c.rows-in-Some.ensures.table c.in-Some.col betters c.in-Ok-Some.row found _ c.in_ok-tableau-in-Ok-Some.ensures.ok

pub loop-col-preserved : goal.loop-col-preserved
loop-col-preserved g c =
    let value = g.F.Field.value in
    let first = c.args.tableau in
    let now = c.loop-col.tableau in
    let kept = c.loop-col.invariant in
    let r = c.requires in
    let betters = column_betters value c.args.equations c.args.cost c.args.unknowns c.args.columns.now first now r.start kept.turn r.cost r.inside r.unknowns c.rows.result.now c.rows.ensures.rows c.rows.ensures.table c.deref.result.now c.index-rows-cost.result c.deref.ensures.value c.index-rows-cost.is
    c.in-Some.col (c.in-Some.ensures first.width (line_rises value c.args.equations c.args.cost c.args.unknowns c.args.columns.now first now r.start kept.turn r.cost r.inside r.unknowns c.rows.result.now c.rows.ensures.rows c.rows.ensures.table c.deref.result.now c.index-rows-cost.result c.deref.ensures.value c.index-rows-cost.is)) in
    let found = subst (λ (o : Option ℕ). IsLeaving (lines value c.rows-in-Some.result.now) c.in-Some.col c.args.columns.now c.args.equations o) c.in-Ok-Some.field-0-is c.in-Ok-Some.ensures.ok in
    let is = c.in_ok-tableau-in-Ok-Some.ensures.ok in
    record {
      turn = turn_more value c.args.equations c.args.cost c.args.unknowns c.args.columns.now first now r.start kept.turn r.cost r.inside r.unknowns c.rows-in-Some.result.now c.rows-in-Some.ensures.rows c.rows-in-Some.ensures.table c.in-Some.col betters c.in-Ok-Some.row found _ is;
      moved = turn_moved value c.args.equations c.args.cost c.args.unknowns c.args.columns.now first now r.start kept.turn r.cost r.inside r.unknowns c.rows-in-Some.result.now c.rows-in-Some.ensures.rows c.rows-in-Some.ensures.table c.in-Some.col betters c.in-Ok-Some.row found _ is kept.moved;
      still = λ end. absurd (lt-not-le (at first.table (c.args.cost + 1) c.in-Some.col) zero_ℚ
          (subst (λ (t : Dictionary). at t.table (c.args.cost + 1) c.in-Some.col <ℚ zero_ℚ) (kept.still end) betters.2) (end c.in-Some.col betters.0 betters.1));
    }

pub returns-in_err-tableau-in-Ok-Some-clause-left : goal.returns-in_err-tableau-in-Ok-Some-clause-left
returns-in_err-tableau-in-Ok-Some-clause-left g c =
    let value = g.F.Field.value in
    let first = c.args.tableau in
    let now = c.loop-col.tableau in
    let kept = c.loop-col.invariant in
    let r = c.requires in
    let betters = column_betters value c.args.equations c.args.cost c.args.unknowns c.args.columns.now first now r.start kept.turn r.cost r.inside r.unknowns c.rows.result.now c.rows.ensures.rows c.rows.ensures.table c.deref.result.now c.index-rows-cost.result c.deref.ensures.value c.index-rows-cost.is
    c.in-Some.col (c.in-Some.ensures first.width (line_rises value c.args.equations c.args.cost c.args.unknowns c.args.columns.now first now r.start kept.turn r.cost r.inside r.unknowns c.rows.result.now c.rows.ensures.rows c.rows.ensures.table c.deref.result.now c.index-rows-cost.result c.deref.ensures.value c.index-rows-cost.is)) in
    let found = subst (λ (o : Option ℕ). IsLeaving (lines value c.rows-in-Some.result.now) c.in-Some.col c.args.columns.now c.args.equations o) c.in-Ok-Some.field-0-is c.in-Ok-Some.ensures.ok in
    let fault = c.in_err-tableau-in-Ok-Some.field-0.0 in
    err_holds c.from_residual-in_err-tableau-in-Ok-Some.result fault (IsPhaseFault value g.F.Field.holds c.args.equations c.args.unknowns first) c.from_residual-in_err-tableau-in-Ok-Some.ensures.1
    (pivot_fault value c.args.equations c.args.cost c.args.unknowns c.args.columns.now first now r.start kept.turn r.cost r.inside r.unknowns c.rows-in-Some.result.now c.rows-in-Some.ensures.rows c.rows-in-Some.ensures.table c.in-Some.col betters c.in-Ok-Some.row found kept.moved g.F.Field.holds fault c.in_err-tableau-in-Ok-Some.ensures.left)

pub returns-clause-end : goal.returns-clause-end
returns-clause-end g c =
    let value = g.F.Field.value in
    let first = c.args.tableau in
    let now = c.loop-col.tableau in
    let kept = c.loop-col.invariant in
    let r = c.requires in
    no_column value c.args.equations c.args.cost c.args.unknowns c.args.columns.now first now r.start kept.turn r.cost r.inside r.unknowns c.rows.result.now c.rows.ensures.rows c.rows.ensures.table c.deref.result.now c.index-rows-cost.result c.deref.ensures.value c.index-rows-cost.is
    (c.in_default.ensures first.width (line_rises value c.args.equations c.args.cost c.args.unknowns c.args.columns.now first now r.start kept.turn r.cost r.inside r.unknowns c.rows.result.now c.rows.ensures.rows c.rows.ensures.table c.deref.result.now c.index-rows-cost.result c.deref.ensures.value c.index-rows-cost.is))
