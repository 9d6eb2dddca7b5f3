use Rattle.representations.proofs.Examples.{sides_example}
use Rattle.representations.proofs.sides_example.Goals as goal

pub returns : goal.returns
returns c = sides_example
