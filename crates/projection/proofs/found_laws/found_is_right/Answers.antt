use Rattle.projection.proofs.RightProjection.{found_is_right}
use Rattle.projection.proofs.found_laws.found_is_right.Goals as goal

pub returns : goal.returns
returns c = found_is_right
