use Rattle.polyhedra.proofs.LiveList.{numbers_tell_apart}
use Rattle.polyhedra.proofs.numbers_tell_apart.Goals as goal

pub returns : goal.returns
returns c = numbers_tell_apart
