use Rattle.polyhedra.proofs.LiveSteps.{are_live}
use Rattle.polyhedra.proofs.are_live.Goals as goal

pub returns : goal.returns
returns c = are_live
