use Rattle.polyhedra.proofs.AdditionExample.{addition_example}
use Rattle.polyhedra.proofs.addition_example.Goals as goal

pub returns : goal.returns
returns c = addition_example
