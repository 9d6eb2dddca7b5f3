-- The examples, computed.
use Rattle.std.proofs.Common.{◌≡◌, ℕ, ◌+◌, ◌*◌, [], ◌∷◌, length, refl, ap, arith}
use Rattle.exact_field.specs.Gcd.{gcd}
use Rattle.exact_field.specs.Rational.{whole, fraction, ◌+ℚ◌, ◌*ℚ◌, neg_ℚ, le_ℚ, ◌<ℚ◌}
use Rattle.exact_field.specs.Vector.{dot}
use Rattle.polyhedra.proofs.Order.{not_lt_of_le}
use Rattle.representations.specs.Projection.{spread}
use Rattle.log_rules.specs.Examples.{n, minus_one}
use Rattle.projection.specs.FoundExamples.{side, FoundExample}
use Rattle.projection.specs.declared.found.Projection.{Projection}
use Rattle.projection.specs.declared.found.Projection.TheVariants.{Empty, Found}

-- how many directions and sides, and 9 for nothing
counted : Projection → ℕ
counted (Empty u) = 9
counted (Found lines points directions sides) = length directions + 3 * length sides

missed : dot side.w (spread (n 2 ∷ [])) <ℚ minus_one
unfolding whole fraction ◌+ℚ◌ ◌*ℚ◌ neg_ℚ le_ℚ gcd
missed = refl

five_not_four : ◌≡◌ {A = ℕ} 5 4 → ⊥
five_not_four e = omega (arith, e)

one_not_four : ◌≡◌ {A = ℕ} 1 4 → ⊥
one_not_four e = omega (arith, e)

nine_not_four : ◌≡◌ {A = ℕ} 9 4 → ⊥
nine_not_four e = omega (arith, e)

none_not_nine : ◌≡◌ {A = ℕ} 0 9 → ⊥
none_not_nine e = omega (arith, e)

pub found_example : FoundExample
unfolding whole fraction ◌+ℚ◌ ◌*ℚ◌ neg_ℚ le_ℚ gcd counted
found_example = record {
  found = refl;
  not_both = λ e. five_not_four (ap counted e);
  not_without = λ e. one_not_four (ap counted e);
  not_empty = λ e. nine_not_four (ap counted e);
  empty = refl;
  not_found = λ e. none_not_nine (ap counted e);
  meets = refl;
  meets_not = λ h. not_lt_of_le minus_one (dot side.w (spread (n 2 ∷ []))) h missed;
}
