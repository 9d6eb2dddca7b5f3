use Rattle.std.proofs.Common.{ℕ, ◌≤◌, take}
use Rattle.std.specs.Prelude.{MatchOption}
use Rattle.exact_field.specs.Rational.{zero_ℚ, ◌≤ℚ◌, ◌<ℚ◌}
use Rattle.lin_rows.specs.Lines.{Rises, entries, sum_at}
use Rattle.exact_simplex.specs.declared.ratio.Candidate.{Candidate}
use Rattle.exact_simplex.proofs.ratio.best_column.Given as goal

abbrev pub invariant-loop-spot : goal.invariant-loop-spot
invariant-loop-spot g l =
    let value = g.F.Field.value in
    MatchOption l.best ((j : ℕ) → j ≤ l.count → zero_ℚ ≤ℚ sum_at (entries value (take l.spot-index l.row)) j)
    (λ (b : Candidate). (n : ℕ) → Rises n 0 (entries value l.row) → (1 ≤ b.col) × (b.col ≤ l.count) × (sum_at (entries value l.row) b.col <ℚ zero_ℚ))
