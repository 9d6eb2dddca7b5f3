use Rattle.polyhedra.proofs.Corners.{start}
use Rattle.polyhedra.proofs.start.Goals as goal

pub returns : goal.returns
returns c = start
