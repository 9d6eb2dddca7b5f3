use mir.Syntax.{w128}
use Rattle.frac128.proofs.Compared.{same_by_den, other_by_num, same_bits}
use Rattle.frac128.proofs.Lowest.{stored}
use Rattle.frac128.proofs.frac.FracPartialEq.eq.Goals as goal

pub returns-then-self-other : goal.returns-then-self-other
returns-then-self-other c =
    same_by_den c.args.self.now c.args.other.now c.self.inside.num c.other.inside.num c.self.inside.den c.other.inside.den
    (stored _ _ c.self.view_is) (stored _ _ c.other.view_is) (same_bits _ _ c.self.invariant.0 c.other.invariant.0 c.if-self-other.true)

pub returns-else-self-other : goal.returns-else-self-other
returns-else-self-other c =
    other_by_num w128 c.args.self.now c.args.other.now c.self.inside.num c.other.inside.num c.self.inside.den c.other.inside.den
    (stored _ _ c.self.view_is) (stored _ _ c.other.view_is) c.if-self-other.false
