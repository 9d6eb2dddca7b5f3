use Rattle.polyhedra.proofs.LiveList.{third_by_number}
use Rattle.polyhedra.proofs.third_by_number.Goals as goal

pub returns : goal.returns
returns c = third_by_number
