use Rattle.weighing.proofs.WorkedExamples.{worked_texts}
use Rattle.weighing.proofs.laws.worked_texts.Goals as goal

pub returns : goal.returns
returns c = worked_texts
