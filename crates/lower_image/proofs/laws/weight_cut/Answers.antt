use Rattle.lower_image.proofs.WeightEnds.{weight_cut}
use Rattle.lower_image.proofs.laws.weight_cut.Goals as goal

pub returns : goal.returns
returns c = weight_cut
