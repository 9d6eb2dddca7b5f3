use Rattle.std.proofs.Common.{◌≤◌, ℕ, map}
use Rattle.exact_field.specs.Rational.{zero_ℚ, ◌≤ℚ◌}
use Rattle.exact_field.specs.Vector.{dot}
use Rattle.program_columns.specs.Program.{column_in}
use Rattle.shown_program.proofs.farkas.are_not_below.Given as goal

abbrev pub invariant-loop-k : goal.invariant-loop-k
invariant-loop-k g l =
    let value = g.F.Field.value in
    (k : ℕ) → 1 ≤ k → k ≤ l.k → zero_ℚ ≤ℚ dot (map value l.y) (column_in value l.program k)
