-- The order of the rational numbers, under short names: which facts on signs follow from which.
use Rattle.std.proofs.Common.{◌≡◌, ◌⊎◌, inl, inr, sym, ap, ◌∙◌, subst}
use Rattle.exact_field.specs.Rational.{ℚ, zero_ℚ, ◌+ℚ◌, ◌*ℚ◌, neg_ℚ, inverse_ℚ, ◌≤ℚ◌, ◌<ℚ◌}
use Rattle.exact_field.proofs.Rationals.{factor_zero}
use Rattle.exact_field.proofs.Inequalities.{lt-not-le, lt-not-same, positive_from_nonnegative, mul-le-mul_nonnegative}
use Rattle.polyhedra.proofs.Laws.{add_comm, add_zero, add_le, mul_comm, mul_assoc, mul_inverse, le_antisymm}
use Rattle.polyhedra.proofs.Algebra.{one_mul, mul_neg}
pub use Rattle.exact_field.proofs.Rationals.{same_or_not}
pub use Rattle.exact_field.proofs.Inequalities.{le_or_lt, lt_irrefl_ℚ as lt_irrefl, le_of_same as le_of_eq, le-lt_trans as lt_of_le_of_lt, lt-le_trans as lt_of_lt_of_le, lt_trans_ℚ as lt_trans, positive-not-zero as not_zero_of_positive, difference_from_le as difference_nonneg, add-le-add_ℚ as add_le_both, add-nonnegative as add_nonneg, add-positive_left as add_positive, add-positive_right as add_positive_right, left_zero_from_sum as add_zero_left, right_zero_from_sum as add_zero_right, mul-positive as mul_positive, neg-nonnegative as neg_nonneg, neg-positive as neg_positive, inverse-positive as inverse_positive, square-nonnegative as square_nonneg}

pub not_lt_of_le : (a b : ℚ) → a ≤ℚ b → b <ℚ a → ⊥
not_lt_of_le a b h k = lt-not-le b a k h

pub not_zero_of_negative : (a : ℚ) → a <ℚ zero_ℚ → a ≡ zero_ℚ → ⊥
not_zero_of_negative a h e = lt-not-same a zero_ℚ h e

-- a number of at least 0 is 0 or positive
pub zero_or_positive : (a : ℚ) → zero_ℚ ≤ℚ a → (a ≡ zero_ℚ) ⊎ (zero_ℚ <ℚ a)
zero_or_positive a h = go (same_or_not a zero_ℚ)
  where
    go : (a ≡ zero_ℚ) ⊎ (a ≡ zero_ℚ → ⊥) → (a ≡ zero_ℚ) ⊎ (zero_ℚ <ℚ a)
    go (inl e) = inl e
    go (inr other) = inr (positive_from_nonnegative a h other)

-- negative, 0 or positive
pub data Sign (a : ℚ) : Type 0 where
  negative : a <ℚ zero_ℚ → Sign a
  none : a ≡ zero_ℚ → Sign a
  positive : zero_ℚ <ℚ a → Sign a

pub sign_of : (a : ℚ) → Sign a
sign_of a = go (le_or_lt zero_ℚ a)
  where
    more : (a ≡ zero_ℚ) ⊎ (zero_ℚ <ℚ a) → Sign a
    more (inl e) = none e
    more (inr m) = positive m

    go : (zero_ℚ ≤ℚ a) ⊎ (a <ℚ zero_ℚ) → Sign a
    go (inl m) = more (zero_or_positive a m)
    go (inr m) = negative m

pub add_le_right : (a b c : ℚ) → a ≤ℚ b → a +ℚ c ≤ℚ b +ℚ c
add_le_right a b c h = subst (λ (x : ℚ). x ≤ℚ b +ℚ c) (add_comm c a) (subst (λ (x : ℚ). c +ℚ a ≤ℚ x) (add_comm c b) (add_le a b c h))

-- the order that a difference shows
pub le_of_difference : (a b d : ℚ) → zero_ℚ ≤ℚ d → a +ℚ d ≡ b → a ≤ℚ b
le_of_difference a b d h e = subst (λ (x : ℚ). a ≤ℚ x) e (subst (λ (x : ℚ). x ≤ℚ a +ℚ d) (add_zero a) (add_le zero_ℚ d a h))

pub lt_of_difference : (a b d : ℚ) → zero_ℚ <ℚ d → a +ℚ d ≡ b → a <ℚ b
lt_of_difference a b d h e = subst (λ (x : ℚ). a <ℚ x) e
    (subst (λ (x : ℚ). x <ℚ a +ℚ d) (add_zero a) (Rattle.exact_field.proofs.Inequalities.add-lt-add_right a a zero_ℚ d
    (Rattle.exact_field.proofs.Inequalities.le_refl_ℚ a) h))

-- a number times an inverse of a positive one, cleared
pub mul_inverse_cancel : (a b : ℚ) → zero_ℚ <ℚ a → a *ℚ (inverse_ℚ a *ℚ b) ≡ b
mul_inverse_cancel a b h = sym (mul_assoc a (inverse_ℚ a) b) ∙ ap (λ x. x *ℚ b) (mul_inverse a h) ∙ one_mul b

pub product_zero : (a b : ℚ) → zero_ℚ <ℚ a → a *ℚ b ≡ zero_ℚ → b ≡ zero_ℚ
product_zero a b h e = factor_zero b a (mul_comm b a ∙ e) (not_zero_of_positive a h)

pub negative_of_neg : (a : ℚ) → zero_ℚ <ℚ neg_ℚ a → a <ℚ zero_ℚ
negative_of_neg a h = lt_of_difference a zero_ℚ (neg_ℚ a) h (Rattle.polyhedra.proofs.Laws.add_neg a)

pub mul_le : (c a b : ℚ) → zero_ℚ ≤ℚ c → a ≤ℚ b → c *ℚ a ≤ℚ c *ℚ b
mul_le c a b h k = subst (λ (x : ℚ). x ≤ℚ c *ℚ b) (mul_comm a c) (subst (λ (x : ℚ). a *ℚ c ≤ℚ x) (mul_comm b c) (mul-le-mul_nonnegative a b c h k))

pub square_zero : (a : ℚ) → a *ℚ a ≡ zero_ℚ → a ≡ zero_ℚ
square_zero a e = go (same_or_not a zero_ℚ)
  where
    go : (a ≡ zero_ℚ) ⊎ (a ≡ zero_ℚ → ⊥) → a ≡ zero_ℚ
    go (inl z) = z
    go (inr other) = factor_zero a a e other

pub mul_negative : (a b : ℚ) → zero_ℚ <ℚ a → b <ℚ zero_ℚ → a *ℚ b <ℚ zero_ℚ
mul_negative a b h k = negative_of_neg (a *ℚ b) (subst (λ (x : ℚ). zero_ℚ <ℚ x) (mul_neg a b) (mul_positive a (neg_ℚ b) h (neg_positive b k)))
