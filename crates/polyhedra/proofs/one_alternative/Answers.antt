use Rattle.polyhedra.proofs.Farkas.{one_alternative}
use Rattle.polyhedra.proofs.one_alternative.Goals as goal

pub returns : goal.returns
returns c = one_alternative
