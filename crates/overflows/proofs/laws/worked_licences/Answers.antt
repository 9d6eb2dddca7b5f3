use Rattle.overflows.proofs.WorkedSteps.{worked_licences}
use Rattle.overflows.proofs.laws.worked_licences.Goals as goal

pub returns : goal.returns
returns c = worked_licences
