use Rattle.polyhedra.proofs.Linear.{dot-combination_left}
use Rattle.polyhedra.proofs.product_of_combination.Goals as goal

pub returns : goal.returns
returns c = dot-combination_left
