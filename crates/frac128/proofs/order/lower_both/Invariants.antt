use Rattle.std.proofs.Common.{◌≡◌, ℕ, ◌+◌, ◌*◌}
use Rattle.frac128.proofs.order.lower_both.Given as goal

abbrev pub invariant-steps : goal.invariant-steps
invariant-steps l = (k : ℕ) × (k * l.b + l.left ≡ l.fn.a) × (k * l.d + l.right ≡ l.fn.c)
