use Rattle.polyhedra.proofs.OneAddition.{made_are_normed}
use Rattle.polyhedra.proofs.made_are_normed.Goals as goal

pub returns : goal.returns
returns c = made_are_normed
