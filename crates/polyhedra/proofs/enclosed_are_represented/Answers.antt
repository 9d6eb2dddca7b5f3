use Rattle.polyhedra.proofs.SolvedAreExact.{enclosed_are_represented}
use Rattle.polyhedra.proofs.enclosed_are_represented.Goals as goal

pub returns : goal.returns
returns g c = enclosed_are_represented g.R.Region.members g.R.Region.directions
