use Rattle.overflows.proofs.Without.{licence_laws}
use Rattle.overflows.proofs.laws.licences_are_given.Goals as goal

pub returns : goal.returns
returns c = licence_laws
