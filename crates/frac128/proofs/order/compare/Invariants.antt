use Rattle.std.proofs.Common.{◌≡◌, ◌+◌, ◌*◌, ◌<◌}
use Rattle.std.specs.Ordering.{nat_cmp}
use Rattle.frac128.proofs.order.compare.Given as goal

abbrev pub invariant-turns : goal.invariant-turns
invariant-turns l = (0 < l.left.1) × (0 < l.right.1) × (nat_cmp (l.fn.a * l.fn.d) (l.fn.c * l.fn.b) ≡ nat_cmp (l.left.0 * l.right.1) (l.right.0 * l.left.1))

abbrev pub decreases-turns : goal.decreases-turns
decreases-turns l = l.left.1 + l.right.1
