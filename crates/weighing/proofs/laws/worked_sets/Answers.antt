use Rattle.weighing.proofs.WorkedExamples.{worked_sets}
use Rattle.weighing.proofs.laws.worked_sets.Goals as goal

pub returns : goal.returns
returns c = worked_sets
