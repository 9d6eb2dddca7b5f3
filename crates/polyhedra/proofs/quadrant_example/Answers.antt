use Rattle.polyhedra.proofs.QuadrantExample.{quadrant_example}
use Rattle.polyhedra.proofs.quadrant_example.Goals as goal

pub returns : goal.returns
returns c = quadrant_example
