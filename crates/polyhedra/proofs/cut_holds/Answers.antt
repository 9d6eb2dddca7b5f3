use Rattle.polyhedra.proofs.Farkas.{cut_holds}
use Rattle.polyhedra.proofs.cut_holds.Goals as goal

pub returns : goal.returns
returns c = cut_holds
