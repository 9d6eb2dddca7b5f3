use Rattle.std.proofs.Common.{◌∙◌, sym, subst, arith, None}
use Rattle.std.proofs.lemmas.Result.{IfErr-weaker, IfOk-weaker}
use Rattle.tableaux.specs.Table.{equation_count, unknown_count}
use Rattle.exact_simplex.specs.Ends.{IsSystemFault}
use Rattle.exact_simplex.specs.Phase.{IsMoved, IsPhaseEnd, IsPhaseFault, IsTurn}
use Rattle.exact_simplex.specs.Program.{IsIdle, IsPrimal}
use Rattle.lin_rows.specs.System.{system_of}
use Rattle.exact_simplex.proofs.Results.{if_ok2}
use Rattle.exact_simplex.proofs.Pivots.{rows_many, basis_many}
use Rattle.exact_simplex.proofs.Programs.{system_ok, equation_count_is, unknown_count_is}
use Rattle.exact_simplex.proofs.Phased.{start_at, turn_at, phase_primal, phase_idle, phase_fault}
use Rattle.exact_simplex.proofs.phase.optimize.Goals as goal

pub list_compared-requires : goal.list_compared-requires
list_compared-requires g c =
    let value = g.F.Field.value in
    let p = c.args.system.now in
    let ok = system_ok value p c.requires.lengths in
    omega (arith, basis_many value (system_of value p) ok c.args.tableau c.requires.primal.held, equation_count_is value p c.requires.lengths)

pub run_phase-requires-clause-start : goal.run_phase-requires-clause-start
run_phase-requires-clause-start g c =
    let value = g.F.Field.value in
    let p = c.args.system.now in
    start_at value (system_of value p) (system_ok value p c.requires.lengths) c.args.tableau c.requires.primal p.rows c.deref.result.now
    (sym (equation_count_is value p c.requires.lengths)) (c.deref.ensures.value ∙ c.in_ok-columns.ensures)

pub run_phase-requires-clause-turn : goal.run_phase-requires-clause-turn
run_phase-requires-clause-turn g c =
    let value = g.F.Field.value in
    let p = c.args.system.now in
    turn_at value (system_of value p) (system_ok value p c.requires.lengths) c.args.tableau c.requires.primal p.rows c.deref.result.now
    (sym (equation_count_is value p c.requires.lengths)) (c.deref.ensures.value ∙ c.in_ok-columns.ensures)

pub run_phase-requires-clause-inside : goal.run_phase-requires-clause-inside
run_phase-requires-clause-inside g c =
    let value = g.F.Field.value in
    let p = c.args.system.now in
    let ok = system_ok value p c.requires.lengths in
    omega (arith, rows_many value (system_of value p) ok c.args.tableau c.requires.primal.held, equation_count_is value p c.requires.lengths, c.requires.high)

pub run_phase-requires-clause-unknowns : goal.run_phase-requires-clause-unknowns
run_phase-requires-clause-unknowns g c =
    let value = g.F.Field.value in
    let p = c.args.system.now in
    omega (arith, c.requires.primal.held.width, unknown_count_is value p c.requires.lengths)

pub returns-clause-primal : goal.returns-clause-primal
returns-clause-primal g c =
    let value = g.F.Field.value in
    let p = c.args.system.now in
    let s = system_of value p in
    let before = c.args.tableau in
    let columns = c.deref.result.now in
    if_ok2 c.run_phase.result (λ done. IsTurn p.rows columns before done.0) (λ done. IsMoved p.rows p.cols before done.0) (λ done. IsPrimal s done.0)
    (λ done turn moved. phase_primal value s (system_ok value p c.requires.lengths) before c.requires.primal done.0 p.rows p.cols columns (sym (equation_count_is value p c.requires.lengths))
    (sym (unknown_count_is value p c.requires.lengths)) (c.deref.ensures.value ∙ c.in_ok-columns.ensures) turn moved)
    c.run_phase.ensures.turn c.run_phase.ensures.moved

pub returns-clause-idle : goal.returns-clause-idle
returns-clause-idle g c =
    let value = g.F.Field.value in
    let p = c.args.system.now in
    let s = system_of value p in
    let before = c.args.tableau in
    let columns = c.deref.result.now in
    λ idle.
    if_ok2 c.run_phase.result (λ done. IsTurn p.rows columns before done.0) (λ done. IsMoved p.rows p.cols before done.0) (λ done. IsIdle s done.0)
    (λ done turn moved. phase_idle value s (system_ok value p c.requires.lengths) before c.requires.primal done.0 p.rows p.cols columns (sym (equation_count_is value p c.requires.lengths))
    (sym (unknown_count_is value p c.requires.lengths)) (c.deref.ensures.value ∙ c.in_ok-columns.ensures) turn moved idle)
    c.run_phase.ensures.turn c.run_phase.ensures.moved

pub returns-clause-end : goal.returns-clause-end
returns-clause-end g c =
    let value = g.F.Field.value in
    let p = c.args.system.now in
    let s = system_of value p in
    IfOk-weaker c.run_phase.result (λ done. IsPhaseEnd p.rows c.args.cost p.cols done.0.table done.1) (λ done. IsPhaseEnd (equation_count s) c.args.cost (unknown_count s) done.0.table done.1)
    (λ done end. subst (λ k. IsPhaseEnd (equation_count s) c.args.cost k done.0.table done.1) (sym (unknown_count_is value p c.requires.lengths))
    (subst (λ k. IsPhaseEnd k c.args.cost p.cols done.0.table done.1) (sym (equation_count_is value p c.requires.lengths)) end))
    c.run_phase.ensures.end

pub returns-clause-left : goal.returns-clause-left
returns-clause-left g c =
    let value = g.F.Field.value in
    let holds = g.F.Field.holds in
    let p = c.args.system.now in
    let s = system_of value p in
    IfErr-weaker c.run_phase.result (IsPhaseFault value holds p.rows p.cols c.args.tableau) (IsSystemFault value holds s)
    (λ fault stuck. phase_fault value s (system_ok value p c.requires.lengths) c.args.tableau c.requires.primal holds p.rows p.cols (sym (equation_count_is value p c.requires.lengths))
    (sym (unknown_count_is value p c.requires.lengths)) fault stuck)
    c.run_phase.ensures.left

pub returns-clause-still : goal.returns-clause-still
returns-clause-still g c =
    let value = g.F.Field.value in
    let p = c.args.system.now in
    let s = system_of value p in
    let t = c.args.tableau.table in
    λ end. c.run_phase.ensures.still
    (subst (λ k. IsPhaseEnd k c.args.cost p.cols t None) (equation_count_is value p c.requires.lengths)
    (subst (λ k. IsPhaseEnd (equation_count s) c.args.cost k t None) (unknown_count_is value p c.requires.lengths) end))
