use Rattle.representations.proofs.Examples.{projection_example}
use Rattle.representations.proofs.projection_example.Goals as goal

pub returns : goal.returns
returns c = projection_example
