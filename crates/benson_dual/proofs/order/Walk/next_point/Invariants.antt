use Rattle.std.proofs.Common.{◌<◌, IfSome, length}
use Rattle.benson_dual.proofs.order.Walk.next_point.Given as goal

abbrev pub invariant-loop-point : goal.invariant-loop-point
invariant-loop-point l = IfSome l.next (λ point. point < length l.points)
