use Rattle.polyhedra.proofs.LiveList.{numbers_stay}
use Rattle.polyhedra.proofs.numbers_stay.Goals as goal

pub returns : goal.returns
returns c = numbers_stay
