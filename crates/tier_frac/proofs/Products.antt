-- Products of fractions in lowest terms.
use Rattle.std.specs.Prelude.{◌≡◌, ℕ, ℤ, pos, ◌*ℤ◌, ◌*◌, ◌/◌, ◌<◌, Bool}
use Rattle.std.specs.Int.{IsGcd}
use Rattle.std.proofs.Common.{sym, ap, ◌∙◌, subst}
use Rattle.std.proofs.Math.Nat.{mul-div_cancel', mul_comm}
use Rattle.exact_field.specs.Rational.{ℚ, fraction, ◌*ℚ◌}
use Rattle.frac128.specs.Signed.{signed, differ}
use Rattle.frac128.proofs.Holds.{size-signed}
use Rattle.frac128.proofs.Lowest.{IsLowest, signed-mul, signed-mul_pos}
use Rattle.frac128.proofs.Parts.{product_parts}

-- the product of x / b and y / d, with the sign of the first: each numerator is divided by what it has in common with
-- the other denominator
pub product_of_lowest : (s : Bool) (x b y d g k n m e f : ℕ) → 0 < b → 0 < d → IsGcd x b 1 → IsGcd y d 1 → IsGcd x d g → IsGcd y b k → n ≡ x / g → m ≡ y / k → e ≡ b / k → f ≡ d / g → IsLowest (fraction (signed s (x * y)) (b * d)) s (n * m) (e * f)
unfolding ◌*ℚ◌
product_of_lowest s x b y d g k n m e f hb hd low other is_g is_k en em ee ef =
    let p : ℚ = record { num = signed s x; den = b; positive = hb; lowest = subst (λ (z : ℕ). IsGcd z b 1) (sym (size-signed s x)) low } in
    let q : ℚ = record { num = pos y; den = d; positive = hd; lowest = other } in
    let parts = product_parts p q g k (signed s n) (pos m) e f
    (subst (λ (z : ℕ). IsGcd z d g) (sym (size-signed s x)) is_g) is_k
    (signed-mul_pos s n g ∙ ap (signed s) (ap (λ (z : ℕ). z * g) en ∙ mul_comm (x / g) g ∙ mul-div_cancel' g is_g.0))
    (ap pos (ap (λ (z : ℕ). z * k) em ∙ mul_comm (y / k) k ∙ mul-div_cancel' k is_k.0))
    (ap (λ (z : ℕ). k * z) ee ∙ mul-div_cancel' k is_k.1)
    (ap (λ (z : ℕ). g * z) ef ∙ mul-div_cancel' g is_g.1) in
    subst (λ (z : ℤ). IsLowest (fraction z (b * d)) s (n * m) (e * f)) (signed-mul_pos s x y)
    (record { num = parts.0 ∙ signed-mul_pos s n m; den = parts.1 })

-- the product of two numbers, by their signs and magnitudes
pub product_is : (p q : ℚ) (s t : Bool) (x b y d : ℕ) → IsLowest p s x b → IsLowest q t y d → fraction (signed (differ s t) (x * y)) (b * d) ≡ p *ℚ q
unfolding ◌*ℚ◌
product_is p q s t x b y d is_p is_q =
    ap (λ (z : ℤ). fraction z (b * d)) (sym (signed-mul s t x y))
    ∙ ap (λ (z : ℤ). fraction (z *ℤ signed t y) (b * d)) (sym is_p.num)
    ∙ ap (λ (z : ℤ). fraction (p.num *ℤ z) (b * d)) (sym is_q.num)
    ∙ ap (λ (z : ℕ). fraction (p.num *ℤ q.num) (z * d)) (sym is_p.den)
    ∙ ap (λ (z : ℕ). fraction (p.num *ℤ q.num) (p.den * z)) (sym is_q.den)
