use Rattle.polyhedra.proofs.Farkas.{generated_nonneg}
use Rattle.polyhedra.proofs.dual_of_generated.Goals as goal

pub returns : goal.returns
returns c = generated_nonneg
