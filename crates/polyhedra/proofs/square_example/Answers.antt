use Rattle.polyhedra.proofs.SquareExample.{square_example}
use Rattle.polyhedra.proofs.square_example.Goals as goal

pub returns : goal.returns
returns c = square_example
