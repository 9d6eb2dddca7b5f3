use Rattle.polyhedra.proofs.Linear.{dot_comm}
use Rattle.polyhedra.proofs.product_is_symmetric.Goals as goal

pub returns : goal.returns
returns c = dot_comm
