use Rattle.weighing.proofs.WeighedRight.{weighed_is_right}
use Rattle.weighing.proofs.laws.weighed_is_right.Goals as goal

pub returns : goal.returns
returns c = weighed_is_right
