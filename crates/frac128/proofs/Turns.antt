-- Two fractions compared by their quotients, or by their remainders where the quotients are equal.
use Rattle.std.specs.Prelude.{◌≡◌, ◌⊎◌, ℕ, zero, suc, ◌*◌, ◌+◌, ◌<◌, ◌≤◌}
use Rattle.std.specs.Cmp.{nat_cmp_is}
use Rattle.std.specs.Ordering.{nat_cmp}
use Rattle.std.specs.declared.cmp.Ordering.TheVariants.{Less, Equal, Greater}
use Rattle.std.proofs.Common.{arith, sym, ap, ◌∙◌, inl, inr, mul-pos}
use Rattle.std.proofs.Math.Nat.{mul-le-mul_left, mul-lt-mul_of_pos_right, mul_comm}
use Rattle.std.proofs.lemmas.Bool.Decides.{nat_tests}
use Rattle.frac128.specs.Floors.{FloorsSay}
use Rattle.frac128.specs.declared.order.Floors.{Floors}
use Rattle.frac128.specs.declared.order.Floors.TheVariants.{Differ, Same}

less_cross : (a b c d s : ℕ) → 0 < d → a < s * b → s * d ≤ c → a * d < c * b
less_cross a b c d s h left right =
    let one : a * d < s * b * d = mul-lt-mul_of_pos_right left h in
    let two : b * (s * d) ≤ b * c = mul-le-mul_left b right in
    omega arith

nat_less : (m n : ℕ) → m < n → nat_cmp m n ≡ Less
nat_less m n h = sym (nat_cmp_is m n Less h)

nat_equal : (m n : ℕ) → m ≡ n → nat_cmp m n ≡ Equal
nat_equal m n h = sym (nat_cmp_is m n Equal h)

nat_greater : (m n : ℕ) → n < m → nat_cmp m n ≡ Greater
nat_greater m n h = sym (nat_cmp_is m n Greater h)

-- a fraction less than a whole number that another reaches is less
pub cmp_less : (a b c d s : ℕ) → 0 < d → a < s * b → s * d ≤ c → Less ≡ nat_cmp (a * d) (c * b)
cmp_less a b c d s h left right = sym (nat_less (a * d) (c * b) (less_cross a b c d s h left right))

pub cmp_greater : (a b c d s : ℕ) → 0 < b → c < s * d → s * b ≤ a → Greater ≡ nat_cmp (a * d) (c * b)
cmp_greater a b c d s h left right = sym (nat_greater (a * d) (c * b) (less_cross c d a b s h left right))

cmp_shift : (k m n x y : ℕ) → x ≡ k + m → y ≡ k + n → nat_cmp x y ≡ nat_cmp m n
cmp_shift k m n x y e f = grind (arith, nat_tests)

split_cross : (a b d q r : ℕ) → q * b + r ≡ a → a * d ≡ q * b * d + r * d
split_cross a b d q r e = ap (λ (n : ℕ). n * d) (sym e) ∙ omega arith

split_other : (c b d q t : ℕ) → q * d + t ≡ c → c * b ≡ q * b * d + t * b
split_other c b d q t e = ap (λ (n : ℕ). n * b) (sym e) ∙ omega arith

-- the order of what is left after the divisors are taken equally often
pub cmp_lowered : (a b c d q r s : ℕ) → q * b + r ≡ a → q * d + s ≡ c → nat_cmp (a * d) (c * b) ≡ nat_cmp (r * d) (s * b)
cmp_lowered a b c d q r s e f = cmp_shift (q * b * d) (r * d) (s * b) (a * d) (c * b) (split_cross a b d q r e) (split_other c b d q s f)

-- and so by the reciprocals of their fractions
pub cmp_turned : (a b c d q r s : ℕ) → q * b + r ≡ a → q * d + s ≡ c → nat_cmp (a * d) (c * b) ≡ nat_cmp (d * r) (b * s)
cmp_turned a b c d q r s e f = cmp_lowered a b c d q r s e f ∙ ap (λ (n : ℕ). nat_cmp n (s * b)) (mul_comm r d) ∙ ap (λ (n : ℕ). nat_cmp (d * r) n) (mul_comm s b)

-- what the quotients of the numbers that are left say is said of the fractions
pub floors_lowered : (a b c d k r s : ℕ) (f : Floors) → k * b + r ≡ a → k * d + s ≡ c → FloorsSay r b s d f → FloorsSay a b c d f
floors_lowered a b c d k r s (Differ order) e f say = say ∙ sym (cmp_lowered a b c d k r s e f)
floors_lowered a b c d k r s (Same x y) e f say = (k + say.0, omega (arith, say.1), omega (arith, say.2), say.3, say.4)

-- a remainder that is 0 decides
pub cmp_with_zero : (b d r s : ℕ) → 0 < b → 0 < d → (r ≡ 0) ⊎ (s ≡ 0) → nat_cmp r s ≡ nat_cmp (d * r) (b * s)
cmp_with_zero b d zero zero hb hd h = nat_equal 0 0 (omega arith) ∙ sym (nat_equal (d * 0) (b * 0) (omega arith))
cmp_with_zero b d zero (suc s) hb hd h = nat_less 0 (suc s) (omega arith) ∙ sym (nat_less (d * 0) (b * suc s) (let m : 0 < b * suc s = mul-pos hb (omega arith) in omega arith))
cmp_with_zero b d (suc r) zero hb hd h = nat_greater (suc r) 0 (omega arith) ∙ sym (nat_greater (d * suc r) (b * 0) (let m : 0 < d * suc r = mul-pos hd (omega arith) in omega arith))
cmp_with_zero b d (suc r) (suc s) hb hd (inl h) = absurd (omega arith)
cmp_with_zero b d (suc r) (suc s) hb hd (inr h) = absurd (omega arith)
