-- A number with the sign of an artificial column.
use Rattle.std.proofs.Common.{◌≡◌, sym, ap, ◌∙◌}
use Rattle.std.specs.Prelude.{if◌then◌else◌, not}
use Rattle.exact_field.specs.Rational.{ℚ, zero_ℚ, one_ℚ, ◌*ℚ◌, neg_ℚ, ◌≤ℚ◌, ◌<ℚ◌}
use Rattle.polyhedra.proofs.Algebra.{one_mul, neg_mul}
use Rattle.tableaux.specs.Table.{artificial_sign}

pub signed_negative : (b x : ℚ) → b <ℚ zero_ℚ → neg_ℚ x ≡ artificial_sign b *ℚ x
signed_negative b x h = sym (ap (λ t. (if t then neg_ℚ one_ℚ else one_ℚ) *ℚ x) h ∙ neg_mul one_ℚ x ∙ ap neg_ℚ (one_mul x))

pub signed_other : (b x : ℚ) → zero_ℚ ≤ℚ b → x ≡ artificial_sign b *ℚ x
signed_other b x h = sym (ap (λ t. (if not t then neg_ℚ one_ℚ else one_ℚ) *ℚ x) h ∙ one_mul x)
