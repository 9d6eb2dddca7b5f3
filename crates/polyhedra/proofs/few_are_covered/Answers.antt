use Rattle.polyhedra.proofs.CommonRows.{few_are_covered}
use Rattle.polyhedra.proofs.few_are_covered.Goals as goal

pub returns : goal.returns
returns c = few_are_covered
