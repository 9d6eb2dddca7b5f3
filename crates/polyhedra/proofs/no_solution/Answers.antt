use Rattle.polyhedra.proofs.Farkas.{no_solution}
use Rattle.polyhedra.proofs.no_solution.Goals as goal

pub returns : goal.returns
returns c = no_solution
