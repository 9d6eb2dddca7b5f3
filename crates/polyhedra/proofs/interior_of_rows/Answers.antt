use Rattle.polyhedra.proofs.Duality.{interior_of_rows}
use Rattle.polyhedra.proofs.interior_of_rows.Goals as goal

pub returns : goal.returns
returns c = interior_of_rows
