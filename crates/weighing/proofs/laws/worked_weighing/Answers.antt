use Rattle.weighing.proofs.WorkedExamples.{worked_weighing}
use Rattle.weighing.proofs.laws.worked_weighing.Goals as goal

pub returns : goal.returns
returns c = worked_weighing
