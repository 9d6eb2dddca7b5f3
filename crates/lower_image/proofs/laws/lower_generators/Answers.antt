use Rattle.lower_image.proofs.Generators.{lower_generators}
use Rattle.lower_image.proofs.laws.lower_generators.Goals as goal

pub returns : goal.returns
returns c = lower_generators
