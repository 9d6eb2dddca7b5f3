-- What follows from the ring laws of the rational numbers, under short names.
use Rattle.std.proofs.Common.{◌≡◌, sym, ap, ◌∙◌}
use Rattle.exact_field.specs.Rational.{ℚ, ◌+ℚ◌, ◌*ℚ◌, neg_ℚ}
use Rattle.polyhedra.proofs.Laws.{add_comm, add_assoc, add_zero, add_neg, mul_comm, mul_assoc, mul_one, mul_add}
pub use Rattle.exact_field.proofs.Rationals.{zero-add_ℚ as zero_add, one-mul_ℚ as one_mul, mul-zero_ℚ as mul_zero, zero-mul_ℚ as zero_mul, add-mul_ℚ as add_mul, neg-zero_ℚ as neg_zero, neg-neg_ℚ as neg_neg, neg-mul_ℚ as neg_mul, mul-neg_ℚ as mul_neg, neg-add_ℚ as neg_add}

pub add_left_comm : (a b c : ℚ) → a +ℚ (b +ℚ c) ≡ b +ℚ (a +ℚ c)
add_left_comm a b c = sym (add_assoc a b c) ∙ ap (λ x. x +ℚ c) (add_comm a b) ∙ add_assoc b a c

pub mul_left_comm : (a b c : ℚ) → a *ℚ (b *ℚ c) ≡ b *ℚ (a *ℚ c)
mul_left_comm a b c = sym (mul_assoc a b c) ∙ ap (λ x. x *ℚ c) (mul_comm a b) ∙ mul_assoc b a c

-- a sum less its second part
pub cancel : (a b : ℚ) → (a +ℚ b) +ℚ neg_ℚ b ≡ a
cancel a b = add_assoc a b (neg_ℚ b) ∙ ap (λ x. a +ℚ x) (add_neg b) ∙ add_zero a

pub add_cancel : (a b c : ℚ) → a +ℚ c ≡ b +ℚ c → a ≡ b
add_cancel a b c h = sym (cancel a c) ∙ ap (λ x. x +ℚ neg_ℚ c) h ∙ cancel b c

-- sums and products multiplied out and sorted
pub ruleset ring_rules = (add_assoc, add_left_comm, add_comm, mul_assoc, mul_left_comm, mul_comm, mul_add, add_mul, add_zero, zero_add, mul_zero, zero_mul, mul_one, one_mul)
