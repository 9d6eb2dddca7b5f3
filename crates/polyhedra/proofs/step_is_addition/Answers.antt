use Rattle.polyhedra.proofs.LiveList.{step_is_addition}
use Rattle.polyhedra.proofs.step_is_addition.Goals as goal

pub returns : goal.returns
returns c = step_is_addition
