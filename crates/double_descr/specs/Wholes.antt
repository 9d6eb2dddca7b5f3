-- Meeting points by whole numbers.
use Rattle.std.specs.Prelude.{◌≡◌, ℤ, pos, ◌*ℤ◌, ◌<ℤ◌, List, All, map, Bool, IsTrue}
use Rattle.exact_field.specs.Field.{IsSmall}
use Rattle.exact_field.specs.Over.{IsBelowLimit, IsQuotient}
use Rattle.exact_field.specs.Rational.{ℚ, whole, ◌+ℚ◌, ◌*ℚ◌, ◌/ℚ◌, neg_ℚ}
use Rattle.polyhedra.specs.Vectors.{scaled}
use Rattle.double_descr.specs.declared.scales.Scales.{Scales}
use Rattle.double_descr.specs.Steps.{IsHeld, between, combination_steps}

-- each number with small parts is held
abbrev pub HoldsSmall : (ℚ → Bool) → Type 0
HoldsSmall holds = (q : ℚ) → IsSmall q → IsTrue (holds q)

-- over the scale, the factor k has this numerator
pub record AreScalesOf (k : ℚ) (s : Scales) : Type 0 where
  pub factor : IsQuotient s.scale (s.above *ℤ s.other_den) k
  pub factor_small : IsBelowLimit (s.above *ℤ s.other_den)

-- n is the numerator of x + k y over the scale, and the product k y is small too
pub record IsEntryOver (scale : ℤ) (k x y : ℚ) (n : ℤ) : Type 0 where
  pub sum : IsQuotient scale n (x +ℚ k *ℚ y)
  pub sum_small : IsBelowLimit n
  pub term_small : IsSmall (k *ℚ y)

-- the numbers are a positive multiple of the vector between p and m, and all steps of that vector are held
pub record AreNumbersBetween (holds : ℚ → Bool) (a b : ℚ) (p m : List ℚ) (numbers : List ℤ) : Type 0 where
  pub scale : ℤ
  pub positive : pos 0 <ℤ scale
  pub small : All IsBelowLimit numbers
  pub multiple : map whole numbers ≡ scaled (whole scale) (between a b p m)
  pub first_held : IsTrue (holds (a /ℚ neg_ℚ b))
  pub held : All (IsHeld holds) (combination_steps (a /ℚ neg_ℚ b) p m)
