use Rattle.overflows.proofs.WorkedScales.{worked_pairs}
use Rattle.overflows.proofs.laws.worked_pairs.Goals as goal

pub returns : goal.returns
returns c = worked_pairs
