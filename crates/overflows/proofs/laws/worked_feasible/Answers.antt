use Rattle.overflows.proofs.WorkedOperands.{worked_feasible}
use Rattle.overflows.proofs.laws.worked_feasible.Goals as goal

pub returns : goal.returns
returns c = worked_feasible
