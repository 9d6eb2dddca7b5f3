use Rattle.cone_rules.proofs.Ranks.{orthant_laws}
use Rattle.cone_rules.proofs.orthant.Goals as goal

pub returns : goal.returns
returns c = orthant_laws
