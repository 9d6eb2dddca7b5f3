use Rattle.std.proofs.Common.{pos, ◌*◌}
use Rattle.std.specs.Prelude.{◌+ℤ◌, ◌*ℤ◌}
use Rattle.frac128.specs.Mixed.{mixed_value}
use Rattle.frac128.proofs.Carried.{IsCarried}
use Rattle.frac128.proofs.joint.divide_products.Given as goal

abbrev pub invariant-loop-turns : goal.invariant-loop-turns
invariant-loop-turns l =
    IsCarried l.divisor (mixed_value l.divisor l.first *ℤ pos l.x +ℤ mixed_value l.divisor l.second *ℤ pos l.y) l.first l.second (4 * l.turns) l.carry

abbrev pub decreases-loop-turns : goal.decreases-loop-turns
decreases-loop-turns l = l.turns
