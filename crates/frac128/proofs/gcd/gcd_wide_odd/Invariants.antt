use Rattle.std.proofs.Common.{◌≡◌, ℕ, ◌+◌, ◌%◌}
use Rattle.std.specs.Int.{IsGcd}
use Rattle.frac128.proofs.gcd.gcd_wide_odd.Given as goal

abbrev pub invariant-turns : goal.invariant-turns
invariant-turns l = (l.x % 2 ≡ 1) × (l.y % 2 ≡ 1) × ((g : ℕ) → IsGcd l.x l.y g → IsGcd l.fn.a l.fn.b g)

abbrev pub decreases-turns : goal.decreases-turns
decreases-turns l = l.x + l.y
