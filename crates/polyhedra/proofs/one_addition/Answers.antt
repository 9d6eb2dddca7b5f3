use Rattle.polyhedra.proofs.OneAddition.{one_addition}
use Rattle.polyhedra.proofs.one_addition.Goals as goal

pub returns : goal.returns
returns c = one_addition
