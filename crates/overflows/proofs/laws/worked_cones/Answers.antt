use Rattle.overflows.proofs.WorkedCones.{worked_cones}
use Rattle.overflows.proofs.laws.worked_cones.Goals as goal

pub returns : goal.returns
returns c = worked_cones
