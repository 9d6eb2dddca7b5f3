use Rattle.polyhedra.proofs.LiveSteps.{step_example}
use Rattle.polyhedra.proofs.step_example.Goals as goal

pub returns : goal.returns
returns c = step_example
