use Rattle.weighing.proofs.Below.{below}
use Rattle.weighing.proofs.walk.is_below.Goals as goal

pub returns : goal.returns
returns c = below c.args.a c.args.b c.lt.result c.lt.ensures
