-- Quotients and remainders, and products by the bits of their factors.
use Rattle.std.specs.Prelude.{◌≡◌, ℕ, ◌*◌, ◌+◌, ◌-◌, ◌/◌, ◌%◌, ◌^◌, ◌<◌, ◌≤◌}
use Rattle.std.proofs.Common.{arith, sym, ap, ◌∙◌, mul-le-mul_right}
use Rattle.std.proofs.Math.Nat.{div-add-mod, pow-le-pow_right, mul-le-mul_left}
use Rattle.std.proofs.lemmas.Nat.{div-mul-add, mod-mul-add, pow-add}

-- a quotient and a remainder below the divisor that make up the number
pub divides_as : (x y q r : ℕ) → q * y + r ≡ x → r < y → (q ≡ x / y) × (r ≡ x % y)
divides_as x y q r e h = (sym (div-mul-add q y r h) ∙ ap (λ (n : ℕ). n / y) e, sym (mod-mul-add q y r h) ∙ ap (λ (n : ℕ). n % y) e)

pub rest_is : (x y q : ℕ) → q ≡ x / y → x - q * y ≡ x % y
rest_is x y q e = let whole = div-add-mod x y in let same : q * y ≡ y * (x / y) = ap (λ (n : ℕ). n * y) e ∙ omega arith in omega arith

pub long_product : (i j x y : ℕ) → 2 ^ i ≤ 2 * x → 2 ^ j ≤ 2 * y → 127 ≤ i + j → 2 ^ 125 ≤ x * y
long_product i j x y hx hy h =
    let one : 2 ^ i * 2 ^ j ≤ 2 * x * 2 ^ j = mul-le-mul_right (2 ^ j) hx in
    let two : 2 * x * 2 ^ j ≤ 2 * x * (2 * y) = mul-le-mul_left (2 * x) hy in
    let three : 2 ^ 127 ≤ 2 ^ (i + j) = pow-le-pow_right {n = 2} (omega arith) h in
    omega (arith, pow-add 2 i j)
