use Rattle.overflows.proofs.Growing.{trail_laws}
use Rattle.overflows.proofs.laws.trails_grow.Goals as goal

pub returns : goal.returns
returns c = trail_laws
