use Rattle.std.proofs.Common.{arith}
use Rattle.exact_simplex.proofs.DrivingTurns.{idle_at_end}
use Rattle.exact_simplex.proofs.driving.drive_out.Goals as goal

pub returns-clause-idle : goal.returns-clause-idle
returns-clause-idle g c =
    idle_at_end g.F.Field.value c.args.system.now c.requires.lengths c.loop-i.tableau c.loop-i.i (omega arith) c.loop-i.invariant.feasible c.loop-i.invariant.idle
