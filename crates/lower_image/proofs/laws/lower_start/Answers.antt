use Rattle.lower_image.proofs.Start.{lower_start}
use Rattle.lower_image.proofs.laws.lower_start.Goals as goal

pub returns : goal.returns
returns c = lower_start
