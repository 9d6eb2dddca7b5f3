use Rattle.polyhedra.proofs.Linear.{dot-plus, dot-scaled}
use Rattle.polyhedra.proofs.product_is_linear.Goals as goal

pub returns : goal.returns
returns c = record { sum = dot-plus; multiple = dot-scaled }
