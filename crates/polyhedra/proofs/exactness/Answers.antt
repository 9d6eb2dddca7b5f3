use Rattle.polyhedra.proofs.SolvedAreExact.{exactness}
use Rattle.polyhedra.proofs.exactness.Goals as goal

pub returns : goal.returns
returns g c = exactness g.R.Region.members g.R.Region.directions
