use Rattle.overflows.proofs.Making.{generator_laws}
use Rattle.overflows.proofs.laws.generators_are_made.Goals as goal

pub returns : goal.returns
returns c = generator_laws
