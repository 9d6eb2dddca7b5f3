use Rattle.overflows.proofs.WorkedEntries.{worked_images}
use Rattle.overflows.proofs.laws.worked_images.Goals as goal

pub returns : goal.returns
returns c = worked_images
