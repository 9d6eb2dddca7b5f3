-- Signs of numbers, by tests.
use Rattle.std.proofs.Common.{◌≡◌, Bool, false, IsTrue, sym, ◌∙◌, inl, inr, true≢false}
use Rattle.std.specs.Prelude.{◌↔◌}
use Rattle.exact_field.specs.Rational.{ℚ, zero_ℚ, ◌≤ℚ◌, ◌<ℚ◌}
use Rattle.exact_field.proofs.Inequalities.{le_or_lt}

pub not_positive : (b : Bool) (x : ℚ) → IsTrue b ↔ (zero_ℚ <ℚ x) → b ≡ false → x ≤ℚ zero_ℚ
not_positive b x test fails = elim (le_or_lt x zero_ℚ) [ inl low ↦ low | inr high ↦ absurd (true≢false (sym (test.1 high) ∙ fails)) ]
