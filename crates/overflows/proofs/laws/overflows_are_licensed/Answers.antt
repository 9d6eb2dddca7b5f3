use Rattle.overflows.proofs.Given.{overflow_laws}
use Rattle.overflows.proofs.laws.overflows_are_licensed.Goals as goal

pub returns : goal.returns
returns c = overflow_laws
