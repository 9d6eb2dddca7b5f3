-- The sign that a field answers, as tests of the number.
use Rattle.std.proofs.Common.{◌≡◌, ◌≢◌, ℕ, refl, sym, ap, ◌∙◌, inl, inr, ◌⊎◌, ℤ, of_z, w8, nat_eq, Bool, true, false, IsTrue}
use Rattle.std.specs.Prelude.{not, ◌↔◌}
use Rattle.exact_field.specs.Rational.{ℚ, zero_ℚ, le_ℚ, lt_ℚ, ◌<ℚ◌}
use Rattle.exact_field.specs.Order.{same_ℚ, sign_ℚ}
use Rattle.exact_field.proofs.Inequalities.{le_refl_ℚ, lt-le_ℚ, lt-not-same, positive-not-zero, three_cases}
use Rattle.exact_field.proofs.Comparison.{same_ℚ-is, sign-negative, sign-positive, sign-zero}

-- what holds where a test passes holds where the same test does
pub passes : (b t : Bool) (P : Type 0) → b ≡ t → IsTrue t ↔ P → IsTrue b ↔ P
passes b t P e both = (λ h. both.0 (sym e ∙ h), λ p. e ∙ both.1 p)

pub passes_itself : (b t : Bool) → b ≡ t → IsTrue b ↔ IsTrue t
passes_itself b t e = passes b t (IsTrue t) e (λ h. h, λ h. h)

false_of_not : (b : Bool) → (IsTrue b → ⊥) → b ≡ false
false_of_not true h = absurd (h refl)
false_of_not false h = refl

-- two numbers that differ are not one
pub same_ℚ-other : (p q : ℚ) → p ≢ q → same_ℚ p q ≡ false
same_ℚ-other p q h = false_of_not (same_ℚ p q) (λ t. h ((same_ℚ-is p q).0 t))

-- no number is below 0, or above, that is 0
none_below : (p : ℚ) → p ≡ zero_ℚ → lt_ℚ p zero_ℚ ≡ false
none_below p e = ap not (ap (λ a. le_ℚ zero_ℚ a) e ∙ le_refl_ℚ zero_ℚ)

none_above : (p : ℚ) → p ≡ zero_ℚ → lt_ℚ zero_ℚ p ≡ false
none_above p e = ap not (ap (λ a. le_ℚ a zero_ℚ) e ∙ le_refl_ℚ zero_ℚ)

-- below, at or above 0
abbrev Cases : ℚ → Type 0
Cases p = (p <ℚ zero_ℚ) ⊎ ((p ≡ zero_ℚ) ⊎ (zero_ℚ <ℚ p))

module _ (p : ℚ) (z : ℤ) (e : z ≡ sign_ℚ p) where
  -- what is read off the sign, where that is known
  read : (k : ℕ) (s : ℤ) → sign_ℚ p ≡ s → nat_eq (of_z w8 z) k ≡ nat_eq (of_z w8 s) k
  read k s is = ap (λ (x : ℤ). nat_eq (of_z w8 x) k) (e ∙ is)

  zero_by : Cases p → nat_eq (of_z w8 z) 0 ≡ same_ℚ p zero_ℚ
  zero_by (inl down) = read 0 _ (sign-negative p down) ∙ sym (same_ℚ-other p zero_ℚ (lt-not-same p zero_ℚ down))
  zero_by (inr (inl none)) = read 0 _ (sign-zero p none) ∙ sym ((same_ℚ-is p zero_ℚ).1 none)
  zero_by (inr (inr up)) = read 0 _ (sign-positive p up) ∙ sym (same_ℚ-other p zero_ℚ (positive-not-zero p up))

  above_by : Cases p → nat_eq (of_z w8 z) 1 ≡ lt_ℚ zero_ℚ p
  above_by (inl down) = read 1 _ (sign-negative p down) ∙ sym (ap not (lt-le_ℚ p zero_ℚ down))
  above_by (inr (inl none)) = read 1 _ (sign-zero p none) ∙ sym (none_above p none)
  above_by (inr (inr up)) = read 1 _ (sign-positive p up) ∙ sym up

  below_by : Cases p → nat_eq (of_z w8 z) 255 ≡ lt_ℚ p zero_ℚ
  below_by (inl down) = read 255 _ (sign-negative p down) ∙ sym down
  below_by (inr (inl none)) = read 255 _ (sign-zero p none) ∙ sym (none_below p none)
  below_by (inr (inr up)) = read 255 _ (sign-positive p up) ∙ sym (ap not (lt-le_ℚ zero_ℚ p up))

  -- the sign is 0, 1 or -1 exactly where the test passes
  pub zero_is : nat_eq (of_z w8 z) 0 ≡ same_ℚ p zero_ℚ
  zero_is = zero_by (three_cases p zero_ℚ)

  pub above_is : nat_eq (of_z w8 z) 1 ≡ lt_ℚ zero_ℚ p
  above_is = above_by (three_cases p zero_ℚ)

  pub below_is : nat_eq (of_z w8 z) 255 ≡ lt_ℚ p zero_ℚ
  below_is = below_by (three_cases p zero_ℚ)
