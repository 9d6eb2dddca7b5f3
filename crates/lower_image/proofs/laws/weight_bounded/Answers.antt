use Rattle.lower_image.proofs.WeightEnds.{weight_bounded}
use Rattle.lower_image.proofs.laws.weight_bounded.Goals as goal

pub returns : goal.returns
returns c = weight_bounded
