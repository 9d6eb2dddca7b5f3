use mir.Syntax.{w128}
use Rattle.std.proofs.lemmas.Int.{to_z-of_z}
use Rattle.frac128.proofs.Signs.{opposite_is}
use Rattle.frac128.proofs.sign.differ_in_sign.Goals as goal

pub returns : goal.returns
returns c = opposite_is _ _ c.args.a c.args.b (to_z-of_z w128 c.args.a c.ranges.a) (to_z-of_z w128 c.args.b c.ranges.b)
