use Rattle.polyhedra.proofs.LowerImage.{vertices_are_facets}
use Rattle.polyhedra.proofs.vertices_are_facets.Goals as goal

pub returns : goal.returns
returns g c = vertices_are_facets g.R.Region.members
