use Rattle.std.proofs.Common.{◌≡◌, ◌∙◌, ◌+◌, ◌<◌, ℕ, List, [], length, ap, slice_index_or, subst, arith, Some}
use Rattle.std.proofs.lemmas.List.{get_or_default}
use Rattle.std.proofs.lemmas.Result.{IfErr-weaker, IfOk-weaker}
use Rattle.lin_rows.specs.Lines.{lines, entries}
use Rattle.lin_rows.specs.Pivot.{IsPivotFault}
use Rattle.lin_rows.specs.Tableau.{exchange}
use Rattle.lin_rows.proofs.Views.{rows_count}
use Rattle.exact_simplex.specs.Driving.{IsIdleTo, IsSupport}
use Rattle.exact_simplex.specs.Ends.{IsSystemFault}
use Rattle.exact_simplex.specs.Program.{IsFeasible}
use Rattle.lin_rows.specs.System.{system_of}
use Rattle.exact_simplex.proofs.Testing.{own, rises}
use Rattle.exact_simplex.proofs.DrivingTurns.{row_inside, basis_inside, unknown_named, row_zero, turn_high, turn_pivot, turn_fault, turn_feasible, turn_idle}
use Rattle.exact_simplex.proofs.driving.drive_row.Given as given
use Rattle.exact_simplex.proofs.driving.drive_row.Goals as goal
use Rattle.exact_simplex.proofs.driving.drive_row.Goals.{After-support}

-- the row that is read
module _ (g : given.Over) (c : After-support g) where
  in_rows : c.args.i < length c.rows.result.now
  in_rows = omega (
    arith,
    row_inside g.F.Field.value c.args.system.now c.requires.lengths c.args.tableau c.requires.feasible c.args.i c.requires.inside c.requires.idle,
    rows_count g.F.Field.value c.args.tableau c.rows.result.now c.rows.ensures.rows c.rows.ensures.table,
  )

  row_is : entries g.F.Field.value c.deref.result.now ≡ slice_index_or (lines g.F.Field.value c.rows.result.now) c.args.i []
  row_is = own g.F.Field.value c.rows.result.now c.args.tableau.width 0 [] c.rows.ensures.rows.lines c.args.i in_rows c.deref.result.now c.index-rows-i.result c.deref.ensures.value c.index-rows-i.is

  supported : IsSupport (entries g.F.Field.value c.deref.result.now) c.args.system.now.cols c.support.result
  supported = c.support.ensures c.args.tableau.width
      (rises g.F.Field.value c.rows.result.now c.args.tableau.width 0 [] c.rows.ensures.rows.lines c.args.i in_rows c.deref.result.now c.index-rows-i.result c.deref.ensures.value c.index-rows-i.is)

  found : (col : ℕ) → c.support.result ≡ Some col → IsSupport (entries g.F.Field.value c.deref.result.now) c.args.system.now.cols (Some col)
  found col is = subst (IsSupport (entries g.F.Field.value c.deref.result.now) c.args.system.now.cols) is supported

named : (basis now : List ℕ) (i : ℕ) → now ≡ basis → i < length now → slice_index_or now i 0 ≡ slice_index_or basis i (slice_index_or now i 0)
named basis now i is l = get_or_default now i 0 (slice_index_or now i 0) l ∙ ap (λ bs. slice_index_or bs i (slice_index_or now i 0)) is

pub bounds-basis-i : goal.bounds-basis-i
bounds-basis-i g c = omega (
  arith,
  ap length c.basis.ensures.basis,
  basis_inside g.F.Field.value c.args.system.now c.requires.lengths c.args.tableau c.requires.feasible c.args.i c.requires.inside c.requires.idle,
)

pub bounds-rows-i : goal.bounds-rows-i
bounds-rows-i g c = omega (
  arith,
  row_inside g.F.Field.value c.args.system.now c.requires.lengths c.args.tableau c.requires.feasible c.args.i c.requires.inside c.requires.idle,
  rows_count g.F.Field.value c.args.tableau c.rows.result.now c.rows.ensures.rows c.rows.ensures.table,
)

pub returns-then-basis-i-clause-idle : goal.returns-then-basis-i-clause-idle
returns-then-basis-i-clause-idle g c =
    let b = slice_index_or c.basis.result.now c.args.i 0 in
    unknown_named g.F.Field.value c.args.system.now c.requires.lengths c.args.tableau c.requires.feasible c.args.i c.requires.inside c.requires.idle
    b
    (named c.args.tableau.basis c.basis.result.now c.args.i c.basis.ensures.basis (omega (
      arith,
      ap length c.basis.ensures.basis,
      basis_inside g.F.Field.value c.args.system.now c.requires.lengths c.args.tableau c.requires.feasible c.args.i c.requires.inside c.requires.idle,
    ))) c.if-basis-i.true

pub returns-in-None-clause-idle : goal.returns-in-None-clause-idle
returns-in-None-clause-idle g c =
    let d = (goal.at.returns-in-None-clause-idle g c).After-support in
    row_zero g.F.Field.value c.args.system.now c.requires.lengths c.args.tableau c.requires.feasible c.args.i c.requires.inside c.requires.idle
    c.rows.result.now c.rows.ensures.rows c.rows.ensures.table c.deref.result.now (row_is g d)
    (subst (IsSupport (entries g.F.Field.value c.deref.result.now) c.args.system.now.cols) c.in-None.is (supported g d))

pub pivot-requires-clause-inside : goal.pivot-requires-clause-inside
pivot-requires-clause-inside g c =
    omega (arith, row_inside g.F.Field.value c.args.system.now c.requires.lengths c.args.tableau c.requires.feasible c.args.i c.requires.inside c.requires.idle)

pub pivot-requires-clause-low : goal.pivot-requires-clause-low
pivot-requires-clause-low g c = (found g (goal.at.pivot-requires-clause-low g c).After-support c.in-Some.col c.in-Some.is).0

pub pivot-requires-clause-high : goal.pivot-requires-clause-high
pivot-requires-clause-high g c =
    let d = (goal.at.pivot-requires-clause-high g c).After-support in
    turn_high g.F.Field.value c.args.system.now c.requires.lengths c.args.tableau c.requires.feasible c.args.i c.requires.inside c.requires.idle
    c.rows.result.now c.rows.ensures.rows c.rows.ensures.table c.deref.result.now (row_is g d) c.in-Some.col (found g d c.in-Some.col c.in-Some.is)

pub pivot-requires-clause-pivot : goal.pivot-requires-clause-pivot
pivot-requires-clause-pivot g c =
    let d = (goal.at.pivot-requires-clause-pivot g c).After-support in
    turn_pivot g.F.Field.value c.args.system.now c.requires.lengths c.args.tableau c.requires.feasible c.args.i c.requires.inside c.requires.idle
    c.rows.result.now c.rows.ensures.rows c.rows.ensures.table c.deref.result.now (row_is g d) c.in-Some.col (found g d c.in-Some.col c.in-Some.is)

pub returns-in-Some-clause-feasible : goal.returns-in-Some-clause-feasible
returns-in-Some-clause-feasible g c =
    let d = (goal.at.returns-in-Some-clause-feasible g c).After-support in
    let b = slice_index_or c.basis.result.now c.args.i 0 in
    IfOk-weaker c.pivot.result (λ after. after ≡ exchange c.args.tableau c.args.i c.in-Some.col) (IsFeasible (system_of g.F.Field.value c.args.system.now))
    (turn_feasible g.F.Field.value c.args.system.now c.requires.lengths c.args.tableau c.requires.feasible c.args.i c.requires.inside c.requires.idle
    c.rows.result.now c.rows.ensures.rows c.rows.ensures.table c.deref.result.now (row_is g d) c.in-Some.col (found g d c.in-Some.col c.in-Some.is)
    b
    (named c.args.tableau.basis c.basis.result.now c.args.i c.basis.ensures.basis (omega (
      arith,
      ap length c.basis.ensures.basis,
      basis_inside g.F.Field.value c.args.system.now c.requires.lengths c.args.tableau c.requires.feasible c.args.i c.requires.inside c.requires.idle,
    ))) (omega (arith, c.if-basis-i.false)))
    c.pivot.ensures.ok

pub returns-in-Some-clause-idle : goal.returns-in-Some-clause-idle
returns-in-Some-clause-idle g c =
    let d = (goal.at.returns-in-Some-clause-idle g c).After-support in
    let b = slice_index_or c.basis.result.now c.args.i 0 in
    IfOk-weaker c.pivot.result (λ after. after ≡ exchange c.args.tableau c.args.i c.in-Some.col) (IsIdleTo (system_of g.F.Field.value c.args.system.now) (c.args.i + 1))
    (turn_idle g.F.Field.value c.args.system.now c.requires.lengths c.args.tableau c.requires.feasible c.args.i c.requires.inside c.requires.idle
    c.rows.result.now c.rows.ensures.rows c.rows.ensures.table c.deref.result.now (row_is g d) c.in-Some.col (found g d c.in-Some.col c.in-Some.is)
    b
    (named c.args.tableau.basis c.basis.result.now c.args.i c.basis.ensures.basis (omega (
      arith,
      ap length c.basis.ensures.basis,
      basis_inside g.F.Field.value c.args.system.now c.requires.lengths c.args.tableau c.requires.feasible c.args.i c.requires.inside c.requires.idle,
    ))) (omega (arith, c.if-basis-i.false)))
    c.pivot.ensures.ok

pub returns-in-Some-clause-left : goal.returns-in-Some-clause-left
returns-in-Some-clause-left g c =
    let t = c.args.tableau in
    let d = (goal.at.returns-in-Some-clause-left g c).After-support in
    IfErr-weaker c.pivot.result (IsPivotFault g.F.Field.value g.F.Field.holds t.width t.table t.basis (c.args.i + 1) c.in-Some.col)
    (IsSystemFault g.F.Field.value g.F.Field.holds (system_of g.F.Field.value c.args.system.now))
    (turn_fault g.F.Field.value c.args.system.now c.requires.lengths c.args.tableau c.requires.feasible c.args.i c.requires.inside c.requires.idle
    c.rows.result.now c.rows.ensures.rows c.rows.ensures.table c.deref.result.now (row_is g d) c.in-Some.col (found g d c.in-Some.col c.in-Some.is) g.F.Field.holds)
    c.pivot.ensures.left
