use Rattle.polyhedra.proofs.Negatives.{lower_of_negatives}
use Rattle.polyhedra.proofs.lower_of_negatives.Goals as goal

pub returns : goal.returns
returns g c = lower_of_negatives g.R.Region.members
