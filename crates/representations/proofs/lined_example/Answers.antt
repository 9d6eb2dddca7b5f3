use Rattle.representations.proofs.Examples.{lined_example}
use Rattle.representations.proofs.lined_example.Goals as goal

pub returns : goal.returns
returns c = lined_example
