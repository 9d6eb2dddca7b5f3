use Rattle.lower_image.proofs.Examples.{lower_examples}
use Rattle.lower_image.proofs.laws.lower_examples.Goals as goal

pub returns : goal.returns
returns c = lower_examples
