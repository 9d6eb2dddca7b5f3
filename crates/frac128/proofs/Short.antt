-- Fractions whose parts are below 2^59, and their sums and products.
use mir.Syntax.{w128}
use mir.Val.{to_z, of_z}
use Rattle.std.specs.Prelude.{◌≡◌, ℕ, ℤ, pos, ◌*◌, ◌/◌, ◌+ℤ◌, ◌*ℤ◌, ◌^◌, ◌<◌, unsigned_abs, refl}
use Rattle.std.specs.Int.{IsGcd}
use Rattle.std.proofs.Common.{arith, sym, ap, ◌∙◌, subst}
use Rattle.std.proofs.Math.Nat.{div-le_self}
use Rattle.std.proofs.lemmas.Nat.{mul-lt}
use Rattle.std.proofs.lemmas.Int.{unsigned_abs-mul}
use Rattle.exact_field.specs.Rational.{ℚ, ◌+ℚ◌}
use Rattle.frac128.specs.Held.{IsShort}
use Rattle.frac128.specs.Signed.{is_below_zero}
use Rattle.frac128.proofs.Coprime.{abs_sum}
use Rattle.frac128.proofs.Lowest.{IsLowest, IsStored, sum_lowest_of, lowest_at}
use Rattle.frac128.proofs.Signs.{kept}

-- a product of numbers below 2^k
product_size : (k : ℕ) (a : ℤ) (x : ℕ) → unsigned_abs a < 2 ^ k → x < 2 ^ k → unsigned_abs (a *ℤ pos x) < 2 ^ k * 2 ^ k
product_size k a x ha hx = omega (arith, unsigned_abs-mul a (pos x), mul-lt (unsigned_abs a) x (2 ^ k) (2 ^ k) ha hx)

-- a sum of two of them
pub sum_size : (k : ℕ) (a c : ℤ) (x y : ℕ) → unsigned_abs a < 2 ^ k → unsigned_abs c < 2 ^ k → x < 2 ^ k → y < 2 ^ k → unsigned_abs (a *ℤ pos x +ℤ c *ℤ pos y) < 2 * (2 ^ k * 2 ^ k)
sum_size k a c x y ha hc hx hy = omega (arith, abs_sum (a *ℤ pos x) (c *ℤ pos y), product_size k a x ha hx, product_size k c y hc hy)

-- a product as it is computed, of a number and of m that is x
computed_product : (a m : ℤ) (x : ℕ) → m ≡ pos x → unsigned_abs a < 2 ^ 60 → x < 2 ^ 60 → to_z w128 (of_z w128 (to_z w128 (of_z w128 a) *ℤ to_z w128 (of_z w128 m))) ≡ a *ℤ pos x
computed_product a m x e ha hx =
    let size : unsigned_abs m ≡ x = ap unsigned_abs e in
    ap (λ (z : ℤ). to_z w128 (of_z w128 (z *ℤ to_z w128 (of_z w128 m)))) (kept a (omega arith))
    ∙ ap (λ (z : ℤ). to_z w128 (of_z w128 (a *ℤ z))) (kept m (omega arith) ∙ e)
    ∙ kept (a *ℤ pos x) (let small = product_size 60 a x ha hx in omega arith)

-- two of them
pub computed_terms : (a m c n : ℤ) (x y : ℕ) → m ≡ pos x → n ≡ pos y → unsigned_abs a < 2 ^ 60 → unsigned_abs c < 2 ^ 60 → x < 2 ^ 60 → y < 2 ^ 60 → to_z w128 (of_z w128 (to_z w128 (of_z w128 a) *ℤ to_z w128 (of_z w128 m))) +ℤ to_z w128 (of_z w128 (to_z w128 (of_z w128 c) *ℤ to_z w128 (of_z w128 n))) ≡ a *ℤ pos x +ℤ c *ℤ pos y
computed_terms a m c n x y e f ha hc hx hy =
    ap (λ (z : ℤ). z +ℤ to_z w128 (of_z w128 (to_z w128 (of_z w128 c) *ℤ to_z w128 (of_z w128 n)))) (computed_product a m x e ha hx)
    ∙ ap (λ (z : ℤ). a *ℤ pos x +ℤ z) (computed_product c n y f hc hy)

pub short_num : (q : ℚ) (n : ℤ) (d : ℕ) → IsStored q n d → IsShort q → unsigned_abs n < 2 ^ 59
short_num q n d is short = subst (λ (z : ℤ). unsigned_abs z < 2 ^ 59) (sym is.num) short.num

pub short_den : (q : ℚ) (n : ℤ) (d : ℕ) → IsStored q n d → IsShort q → d < 2 ^ 59
short_den q n d is short = subst (λ (z : ℕ). z < 2 ^ 59) (sym is.den) short.den

pub quotient_short : (b g x : ℕ) → b < 2 ^ 59 → x ≡ b / g → x < 2 ^ 59
quotient_short b g x h e = omega (arith, div-le_self b g)

-- the joint numerator of two short fractions
pub short_sum_size : (p q : ℚ) (n m : ℤ) (b d g x y : ℕ) (t : ℤ) → IsStored p n b → IsStored q m d → IsShort p → IsShort q → x ≡ b / g → y ≡ d / g → t ≡ n *ℤ pos y +ℤ m *ℤ pos x → unsigned_abs t < 2 ^ 119
short_sum_size p q n m b d g x y t sp sq short_p short_q ex ey et =
    let few = sum_size 59 n m y x (short_num p n b sp short_p) (short_num q m d sq short_q) (quotient_short d g y (short_den q m d sq short_q) ey) (quotient_short b g x (short_den p n b sp short_p) ex) in
    let size : unsigned_abs t ≡ unsigned_abs (n *ℤ pos y +ℤ m *ℤ pos x) = ap unsigned_abs et in
    omega arith

pub quotient_held : (t : ℤ) (w k u : ℕ) → unsigned_abs t < 2 ^ 119 → w ≡ unsigned_abs t → u ≡ w / k → u < 2 ^ 120
quotient_held t w k u h e f = omega (arith, div-le_self w k)

pub product_held : (b g d k x y v : ℕ) → b < 2 ^ 59 → d < 2 ^ 59 → x ≡ b / g → y ≡ d / k → v ≡ x * y → v < 2 ^ 120
product_held b g d k x y v hb hd ex ey e =
    let less : x * y < 2 ^ 59 * 2 ^ 59 = mul-lt x y (2 ^ 59) (2 ^ 59) (quotient_short b g x hb ex) (quotient_short d k y hd ey) in omega arith

-- the numbers that the sum computes
pub short_sum_lowest : (p q : ℚ) (n m : ℤ) (b d g x y : ℕ) (t : ℤ) (w f k u e v : ℕ) → IsStored p n b → IsStored q m d → IsGcd b d g → x ≡ b / g → y ≡ d / g → t ≡ n *ℤ pos y +ℤ m *ℤ pos x → w ≡ unsigned_abs t → f ≡ g → IsGcd w f k → u ≡ w / k → e ≡ d / k → v ≡ x * e → IsLowest (p +ℚ q) (is_below_zero t) u v
short_sum_lowest p q n m b d g x y t w f k u e v sp sq is_g ex ey et ew ef is_k eu ee ev =
    let gcd_t : IsGcd (unsigned_abs t) g k = subst (λ (z : ℕ). IsGcd z g k) ew (subst (λ (z : ℕ). IsGcd w z k) ef is_k) in
    lowest_at (p +ℚ q) (is_below_zero t) (is_below_zero t) (unsigned_abs t / k) u (x * e) v
    (sum_lowest_of p q n m b d g x y t k e sp sq is_g ex ey et gcd_t ee) refl (eu ∙ ap (λ (z : ℕ). z / k) ew) ev
