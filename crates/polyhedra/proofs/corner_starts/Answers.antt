use Rattle.polyhedra.proofs.CornerStarts.{corner_starts}
use Rattle.polyhedra.proofs.corner_starts.Goals as goal

pub returns : goal.returns
returns c = corner_starts
