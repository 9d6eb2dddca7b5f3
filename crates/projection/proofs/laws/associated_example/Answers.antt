use Rattle.projection.proofs.Examples.{associated_example}
use Rattle.projection.proofs.laws.associated_example.Goals as goal

pub returns : goal.returns
returns c = associated_example
