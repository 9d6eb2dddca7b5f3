use Rattle.polyhedra.proofs.Duality.{interior_of_generated}
use Rattle.polyhedra.proofs.interior_of_generated.Goals as goal

pub returns : goal.returns
returns c = interior_of_generated
