use Rattle.lower_image.proofs.WeightEnds.{weight_choice}
use Rattle.lower_image.proofs.laws.weight_choice.Goals as goal

pub returns : goal.returns
returns c = weight_choice
