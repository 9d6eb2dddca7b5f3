use Rattle.std.proofs.Common.{ℕ, ◌≤◌, ◌≡◌, take}
use Rattle.exact_field.specs.Rational.{zero_ℚ}
use Rattle.lin_rows.specs.Lines.{entries, sum_at}
use Rattle.exact_simplex.proofs.driving.support.Given as goal

abbrev pub invariant-loop-spot : goal.invariant-loop-spot
invariant-loop-spot g l = (j : ℕ) → j ≤ l.count → sum_at (entries g.F.Field.value (take l.spot-index l.row)) j ≡ zero_ℚ
