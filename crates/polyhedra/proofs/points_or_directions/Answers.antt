use Rattle.polyhedra.proofs.Homogenised.{points_or_directions}
use Rattle.polyhedra.proofs.points_or_directions.Goals as goal

pub returns : goal.returns
returns c = points_or_directions
