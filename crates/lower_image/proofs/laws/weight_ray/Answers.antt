use Rattle.lower_image.proofs.WeightEnds.{weight_ray}
use Rattle.lower_image.proofs.laws.weight_ray.Goals as goal

pub returns : goal.returns
returns c = weight_ray
