use Rattle.std.proofs.Common.{ℕ, ◌≡◌, ◌<◌, ◌+◌, ◌⊎◌, slice_index_or}
use Rattle.exact_field.specs.Rational.{zero_ℚ}
use Rattle.program_cases.proofs.tests.named.is_split.Given as goal

abbrev pub invariant-loop-i : goal.invariant-loop-i
invariant-loop-i g l =
    let value = g.F.Field.value in
    (k : ℕ) (x y : _) → k < l.i →
    (value (slice_index_or l.z (l.m + k) x) ≡ zero_ℚ) ⊎ (value (slice_index_or l.z (l.m + l.q + k) y) ≡ zero_ℚ)
