use Rattle.projection.proofs.Examples.{projection_example}
use Rattle.projection.proofs.laws.projection_example.Goals as goal

pub returns : goal.returns
returns c = projection_example
