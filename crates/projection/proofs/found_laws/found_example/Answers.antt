use Rattle.projection.proofs.FoundExamples.{found_example}
use Rattle.projection.proofs.found_laws.found_example.Goals as goal

pub returns : goal.returns
returns c = found_example
