use Rattle.projection.proofs.Hulls.{projection_is_hull}
use Rattle.projection.proofs.laws.projection_is_hull.Goals as goal

pub returns : goal.returns
returns c = projection_is_hull
