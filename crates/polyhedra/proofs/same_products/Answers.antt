use Rattle.polyhedra.proofs.Linear.{same_vectors}
use Rattle.polyhedra.proofs.same_products.Goals as goal

pub returns : goal.returns
returns c = same_vectors
