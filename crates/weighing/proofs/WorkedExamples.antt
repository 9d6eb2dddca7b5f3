-- The examples, computed.
use Rattle.std.proofs.Common.{◌≡◌, ℕ, List, [], ◌∷◌, length, inr, refl, ap, subst, ◌∙◌, arith}
use Rattle.std.specs.Fmt.{digits}
use Rattle.exact_field.specs.Gcd.{gcd}
use Rattle.exact_field.specs.Rational.{ℚ, zero_ℚ, whole, fraction, ◌+ℚ◌, ◌*ℚ◌, neg_ℚ, le_ℚ, ◌<ℚ◌}
use Rattle.exact_field.specs.Vector.{dot}
use Rattle.polyhedra.proofs.Order.{not_lt_of_le, lt_irrefl}
use Rattle.log_rules.specs.Examples.{n, minus_one}
use Rattle.exact_field.proofs.Comparison.{same_ℚ-is}
use Rattle.polyhedra.specs.Negatives.{negated}
use Rattle.polyhedra.proofs.Tests.{same_vector_is}
use Rattle.weighing.specs.Examples.{WorkedSets, WorkedWeighing, WorkedTexts, upward, ends, between}
use Rattle.weighing.specs.Weighing.{points_with}

two_not_one : ◌≡◌ {A = ℕ} 1 2 → ⊥
two_not_one e = omega (arith, e)

pub worked_sets : WorkedSets
unfolding whole fraction gcd
worked_sets = record { sets = refl; in_two = refl; in_none = refl; normals = refl }

goes_down : dot (n 1 ∷ n 0 ∷ []) upward.y <ℚ zero_ℚ
unfolding whole fraction ◌+ℚ◌ ◌*ℚ◌ neg_ℚ le_ℚ gcd
goes_down = refl

above : zero_ℚ <ℚ dot (n 1 ∷ n 2 ∷ []) upward.y
unfolding whole fraction ◌+ℚ◌ ◌*ℚ◌ neg_ℚ le_ℚ gcd
above = refl

both_have : points_with ends between.w (n 3) ≡ 1 ∷ 2 ∷ []
unfolding whole fraction ◌+ℚ◌ ◌*ℚ◌ neg_ℚ le_ℚ gcd
both_have = refl

pub worked_weighing : WorkedWeighing
unfolding whole fraction ◌+ℚ◌ ◌*ℚ◌ neg_ℚ le_ℚ gcd
worked_weighing = record {
  both = both_have;
  first = refl;
  none = refl;
  down = λ h. not_lt_of_le zero_ℚ (dot (n 1 ∷ n 0 ∷ []) upward.y) h goes_down;
  up = refl;
  level = refl;
  along = (same_ℚ-is (dot (n 1 ∷ n 1 ∷ []) upward.y) zero_ℚ).0 refl;
  off = λ e. lt_irrefl zero_ℚ (subst (λ (q : ℚ). zero_ℚ <ℚ q) e above);
  back = inr (same_vector_is (n 1 ∷ minus_one ∷ []) (negated upward.y) refl);
  not_left_out = λ h. two_not_one (ap (λ (ks : List ℕ). length ks) (h.have ∙ both_have));
  not_nothing = λ h. h.some refl;
}

pub worked_texts : WorkedTexts
unfolding whole fraction gcd digits
worked_texts = record { sets = refl; both = refl; down = refl; empty = refl }
