use Rattle.polyhedra.proofs.FirstNamed.{first_example}
use Rattle.polyhedra.proofs.first_example.Goals as goal

pub returns : goal.returns
returns c = first_example
