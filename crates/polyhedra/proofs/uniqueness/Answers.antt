use Rattle.polyhedra.proofs.SolvedAreExact.{uniqueness}
use Rattle.polyhedra.proofs.uniqueness.Goals as goal

pub returns : goal.returns
returns g c = uniqueness g.R.Region.members g.R.Region.directions
