use Rattle.polyhedra.proofs.Duality.{dual_cones}
use Rattle.polyhedra.proofs.dual_cones.Goals as goal

pub returns : goal.returns
returns c = dual_cones
