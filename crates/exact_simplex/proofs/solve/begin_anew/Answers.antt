use Rattle.tableaux.specs.Table.{at, first_cost, right_column}
use Rattle.lin_rows.specs.System.{system_of}
use Rattle.exact_simplex.proofs.Programs.{system_ok}
use Rattle.exact_simplex.proofs.Testing.{not_negative}
use Rattle.exact_simplex.proofs.SolvingEnds.{primal_feasible}
use Rattle.exact_simplex.proofs.solve.begin_anew.Goals as goal

pub drive_out-requires-clause-feasible : goal.drive_out-requires-clause-feasible
drive_out-requires-clause-feasible g c =
    let value = g.F.Field.value in
    let p = c.args.system.now in
    let s = system_of value p in
    let t = c.in_ok-tableau-3.tableau in
    primal_feasible value s (system_ok value p c.requires) t c.in_ok-tableau-3.ensures.primal
    (not_negative c.in_ok-tableau-3.below (at t.table (first_cost s) (right_column s)) c.in_ok-tableau-3.ensures.below c.if-below.false)
