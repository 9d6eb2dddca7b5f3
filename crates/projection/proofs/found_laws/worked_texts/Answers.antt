use Rattle.projection.proofs.TextExamples.{worked_texts}
use Rattle.projection.proofs.found_laws.worked_texts.Goals as goal

pub returns : goal.returns
returns c = worked_texts
