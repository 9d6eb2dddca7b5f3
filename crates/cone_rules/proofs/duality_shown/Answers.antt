use Rattle.cone_rules.proofs.Fitting.{fitting_laws}
use Rattle.cone_rules.proofs.duality_shown.Goals as goal

pub returns : goal.returns
returns c = fitting_laws
