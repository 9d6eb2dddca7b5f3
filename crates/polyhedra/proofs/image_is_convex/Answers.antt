use Rattle.polyhedra.proofs.Image.{image_is_convex}
use Rattle.polyhedra.proofs.image_is_convex.Goals as goal

pub returns : goal.returns
returns g c = image_is_convex g.C.Region.members
