-- The laws of the rational numbers that this crate uses, under short names.
use Rattle.exact_field.specs.Rational.{ℚ, zero_ℚ, one_ℚ, ◌+ℚ◌, ◌*ℚ◌, inverse_ℚ, ◌≤ℚ◌, ◌<ℚ◌}
use Rattle.std.proofs.Common.{◌≡◌}
use Rattle.exact_field.proofs.Rationals.{mul-inverse_ℚ}
use Rattle.exact_field.proofs.Inequalities.{add-le-add_ℚ, le_refl_ℚ, positive-not-zero}
pub use Rattle.exact_field.proofs.Rationals.{add_comm_ℚ as add_comm, add_assoc_ℚ as add_assoc, add-zero_ℚ as add_zero, add-neg_ℚ as add_neg, mul_comm_ℚ as mul_comm, mul_assoc_ℚ as mul_assoc, mul-one_ℚ as mul_one, mul-add_ℚ as mul_add}
pub use Rattle.exact_field.proofs.Inequalities.{le_refl_ℚ as le_refl, le_trans_ℚ as le_trans, le_antisym_ℚ as le_antisymm, lt-le_ℚ as le_of_lt, mul-nonnegative as mul_nonneg, zero-lt-one as zero_lt_one}

pub add_le : (a b c : ℚ) → a ≤ℚ b → c +ℚ a ≤ℚ c +ℚ b
add_le a b c h = add-le-add_ℚ c c a b (le_refl_ℚ c) h

pub mul_inverse : (a : ℚ) → zero_ℚ <ℚ a → a *ℚ inverse_ℚ a ≡ one_ℚ
mul_inverse a h = mul-inverse_ℚ a (positive-not-zero a h)
