use Rattle.polyhedra.proofs.Generators.{dual_of_described}
use Rattle.polyhedra.proofs.dual_of_described.Goals as goal

pub returns : goal.returns
returns c = dual_of_described
