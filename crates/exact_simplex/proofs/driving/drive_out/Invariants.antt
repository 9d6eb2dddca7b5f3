use Rattle.exact_simplex.specs.Driving.{IsIdleTo}
use Rattle.exact_simplex.specs.Program.{IsFeasible}
use Rattle.lin_rows.specs.System.{system_of}
use Rattle.exact_simplex.proofs.driving.drive_out.Given as goal

abbrev pub invariant-loop-i : goal.invariant-loop-i
invariant-loop-i g l =
    let value = g.F.Field.value in
    record { feasible : IsFeasible (system_of value l.system) l.tableau; idle : IsIdleTo (system_of value l.system) l.i l.tableau }
