use Rattle.polyhedra.proofs.LowerDirection.{one_lower_direction}
use Rattle.polyhedra.proofs.one_lower_direction.Goals as goal

pub returns : goal.returns
returns g c = one_lower_direction g.R.Region.members g.R.Region.directions
