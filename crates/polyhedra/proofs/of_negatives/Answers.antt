use Rattle.polyhedra.proofs.Negatives.{of_negatives}
use Rattle.polyhedra.proofs.of_negatives.Goals as goal

pub returns : goal.returns
returns g c = of_negatives g.R.Region.members
