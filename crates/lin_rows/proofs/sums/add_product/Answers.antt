use Rattle.std.proofs.Common.{◌≡◌, ◌∙◌, sym, ap, refl}
use Rattle.exact_field.specs.Rational.{ℚ, zero_ℚ, ◌+ℚ◌, ◌*ℚ◌}
use Rattle.exact_field.proofs.Rationals.{add-zero_ℚ, zero-mul_ℚ, mul-zero_ℚ}
use Rattle.lin_rows.proofs.sums.add_product.Goals as goal

first_none : (t x y : ℚ) → x ≡ zero_ℚ → t ≡ t +ℚ x *ℚ y
first_none t x y e = sym (ap (λ q. t +ℚ q) (ap (λ q. q *ℚ y) e ∙ zero-mul_ℚ y) ∙ add-zero_ℚ t)

second_none : (t x y : ℚ) → y ≡ zero_ℚ → t ≡ t +ℚ x *ℚ y
second_none t x y e = sym (ap (λ q. t +ℚ q) (ap (λ q. x *ℚ q) e ∙ mul-zero_ℚ x) ∙ add-zero_ℚ t)

pub returns-then-is_zero-clause-ok : goal.returns-then-is_zero-clause-ok
returns-then-is_zero-clause-ok g c = let value = g.F.Field.value in first_none (value c.args.total) (value c.args.x) (value c.args.y) (c.if-is_zero.ensures.fact.0 refl)

pub returns-then-is_zero-2-clause-ok : goal.returns-then-is_zero-2-clause-ok
returns-then-is_zero-2-clause-ok g c = let value = g.F.Field.value in second_none (value c.args.total) (value c.args.x) (value c.args.y) (c.if-is_zero-2.ensures.fact.0 refl)
