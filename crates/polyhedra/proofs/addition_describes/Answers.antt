use Rattle.polyhedra.proofs.NewPairs.{addition_describes}
use Rattle.polyhedra.proofs.addition_describes.Goals as goal

pub returns : goal.returns
returns c = addition_describes
