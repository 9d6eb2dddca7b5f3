use Rattle.polyhedra.proofs.Linear.{combination_of_combinations}
use Rattle.polyhedra.proofs.combination_of_combinations.Goals as goal

pub returns : goal.returns
returns c = combination_of_combinations
