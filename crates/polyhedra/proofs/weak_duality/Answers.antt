use Rattle.polyhedra.proofs.Farkas.{weak_duality}
use Rattle.polyhedra.proofs.weak_duality.Goals as goal

pub returns : goal.returns
returns c = weak_duality
