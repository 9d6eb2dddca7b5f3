-- Inverses of odd numbers modulo powers of 2, and quotients by them.
use Rattle.std.specs.Prelude.{◌≡◌, ◌⊎◌, ℕ, ◌+◌, ◌-◌, ◌*◌, ◌/◌, ◌%◌, ◌^◌, ◌<◌, ◌≤◌}
use Rattle.std.specs.Int.{◌∣◌}
use Rattle.std.proofs.Common.{arith, sym, ap, ◌∙◌, inl, inr}
use Rattle.std.proofs.Math.Nat.{div-add-mod, mul-div_cancel', mul-div_cancel_left, div-le_self, mod-eq_of_lt, mod-lt, add-mul-mod_self_left, pow-le-pow_right}
use Rattle.std.proofs.lemmas.Nat.{pow_pos, pow-add, mul-mod_first}

-- the sum of multiples on both sides
newton_sum : (m e n o v j p s r q t u : ℕ) → m * m * e ≡ n → m * j + 1 ≡ o * v → n * q + p ≡ o * v → n * t + s + p ≡ 2 + n → n * u + r ≡ v * s → o * r + m * m * (j * j + e * (o * u + o * v * t)) ≡ 1 + m * m * (e * (o * v + o * v * q))
newton_sum m e n o v j p s r q t u hn hj hp hs hr =
    let one : o * v * (n * t + s + p) ≡ o * v * (2 + n) = ap (λ (z : ℕ). o * v * z) hs in
    let two : o * v * (n * q + p) ≡ o * v * (o * v) = ap (λ (z : ℕ). o * v * z) hp in
    let three : o * (n * u + r) ≡ o * (v * s) = ap (λ (z : ℕ). o * z) hr in
    let four : (m * j + 1) * (m * j + 1) ≡ o * v * (o * v) = ap (λ (z : ℕ). z * z) hj in
    let five : m * m * e * (o * u + o * v * t) ≡ n * (o * u + o * v * t) = ap (λ (z : ℕ). z * (o * u + o * v * t)) hn in
    let six : m * m * e * (o * v + o * v * q) ≡ n * (o * v + o * v * q) = ap (λ (z : ℕ). z * (o * v + o * v * q)) hn in
    omega arith

mod_of_sum : (a b c k : ℕ) → 1 < k → a + k * b ≡ 1 + k * c → a % k ≡ 1
mod_of_sum a b c k h e =
    sym (add-mul-mod_self_left a k b) ∙ ap (λ (z : ℕ). z % k) e ∙ add-mul-mod_self_left 1 k c ∙ mod-eq_of_lt h

two_less : (n t s p q : ℕ) → n * q + s ≡ 2 + (n - p) → p ≤ n → n * q + s + p ≡ 2 + n
two_less n t s p q h k = omega arith

-- a step of Newton's: v (2 - o v) modulo n, where the square of m divides n
pub newton : (m e n o v p s r : ℕ) → 1 < m * m → 0 < n → m * m * e ≡ n → o * v % m ≡ 1 → p ≡ o * v % n → s ≡ (2 + (n - p)) % n → r ≡ v * s % n → o * r % (m * m) ≡ 1
newton m e n o v p s r some pos hn is hp hs hr =
    let first : m * (o * v / m) + o * v % m ≡ o * v = div-add-mod (o * v) m in
    let second : n * (o * v / n) + o * v % n ≡ o * v = div-add-mod (o * v) n in
    let third : n * ((2 + (n - p)) / n) + (2 + (n - p)) % n ≡ 2 + (n - p) = div-add-mod (2 + (n - p)) n in
    let fourth : n * (v * s / n) + v * s % n ≡ v * s = div-add-mod (v * s) n in
    let below : o * v % n < n = mod-lt (o * v) pos in
    mod_of_sum (o * r) (o * v / m * (o * v / m) + e * (o * (v * s / n) + o * v * ((2 + (n - p)) / n))) (e * (o * v + o * v * (o * v / n))) (m * m) some
    (newton_sum m e n o v (o * v / m) p s r (o * v / n) ((2 + (n - p)) / n) (v * s / n) hn (omega arith) (omega arith) (omega arith) (omega arith))

power_square : (k : ℕ) → 2 ^ (2 * k) ≡ 2 ^ k * 2 ^ k
power_square k = let twice : 2 * k ≡ k + k = omega arith in ap (λ (n : ℕ). 2 ^ n) twice ∙ pow-add 2 k k

power_rest : (k w : ℕ) → 2 * k ≤ w → 2 ^ k * 2 ^ k * 2 ^ (w - 2 * k) ≡ 2 ^ w
power_rest k w h =
    let sum : 2 * k + (w - 2 * k) ≡ w = omega arith in
    ap (λ (n : ℕ). n * 2 ^ (w - 2 * k)) (sym (power_square k)) ∙ sym (pow-add 2 (2 * k) (w - 2 * k)) ∙ ap (λ (n : ℕ). 2 ^ n) sum

above_one : (k : ℕ) → 0 < k → 1 < 2 ^ k * 2 ^ k
above_one k h =
    let more : 1 ≤ 2 * k = omega arith in
    let two : 2 ^ 1 ≤ 2 ^ (2 * k) = pow-le-pow_right {n = 2} (omega arith) more in
    omega (arith, power_square k)

-- the step in words of w bits doubles the number of low bits in which the product is 1
pub newton_bits : (k w o v p s r : ℕ) → 0 < k → 2 * k ≤ w → o * v % 2 ^ k ≡ 1 → p ≡ o * v % 2 ^ w → s ≡ (2 + (2 ^ w - p)) % 2 ^ w → r ≡ v * s % 2 ^ w → o * r % 2 ^ (2 * k) ≡ 1
newton_bits k w o v p s r some h is hp hs hr =
    ap (λ (z : ℕ). o * r % z) (power_square k)
    ∙ newton (2 ^ k) (2 ^ (w - 2 * k)) (2 ^ w) o v p s r (above_one k some) (pow_pos w) (power_rest k w h) is hp hs hr

-- an odd number is its own inverse modulo 8
square_by : (o t : ℕ) → (o ≡ 4 * t + 1) ⊎ (o ≡ 4 * t + 3) → o * o % 8 ≡ 1
square_by o t (inl e) =
    let whole : o * o ≡ 1 + 8 * (2 * t * t + t) = ap (λ (z : ℕ). z * z) e ∙ omega arith in
    ap (λ (z : ℕ). z % 8) whole ∙ add-mul-mod_self_left 1 8 (2 * t * t + t)
square_by o t (inr e) =
    let whole : o * o ≡ 1 + 8 * (2 * t * t + 3 * t + 1) = ap (λ (z : ℕ). z * z) e ∙ omega arith in
    ap (λ (z : ℕ). z % 8) whole ∙ add-mul-mod_self_left 1 8 (2 * t * t + 3 * t + 1)

odd_by_four : (o : ℕ) → o % 2 ≡ 1 → (o ≡ 4 * (o / 4) + 1) ⊎ (o ≡ 4 * (o / 4) + 3)
odd_by_four o h = grind arith

pub odd_square : (o : ℕ) → o % 2 ≡ 1 → o * o % 2 ^ 3 ≡ 1
odd_square o h = square_by o (o / 4) (odd_by_four o h)

-- an inverse modulo a power of 2 is one modulo lesser powers
pub fewer_bits : (n j k : ℕ) → 0 < j → j ≤ k → n % 2 ^ k ≡ 1 → n % 2 ^ j ≡ 1
fewer_bits n j k some h e =
    let split : 2 ^ j * 2 ^ (k - j) ≡ 2 ^ k = let sum : j + (k - j) ≡ k = omega arith in sym (pow-add 2 j (k - j)) ∙ ap (λ (z : ℕ). 2 ^ z) sum in
    let two : 2 ^ 1 ≤ 2 ^ j = pow-le-pow_right {n = 2} (omega arith) some in
    let whole : 2 ^ k * (n / 2 ^ k) + n % 2 ^ k ≡ n = div-add-mod n (2 ^ k) in
    let sum : 1 + 2 ^ j * (2 ^ (k - j) * (n / 2 ^ k)) ≡ n = let same : 2 ^ j * 2 ^ (k - j) * (n / 2 ^ k) ≡ 2 ^ k * (n / 2 ^ k) = ap (λ (z : ℕ). z * (n / 2 ^ k)) split in omega arith in
    ap (λ (z : ℕ). z % 2 ^ j) (sym sum) ∙ add-mul-mod_self_left 1 (2 ^ j) (2 ^ (k - j) * (n / 2 ^ k)) ∙ mod-eq_of_lt (omega arith)

-- the quotient: with x = y q and y = 2^t o, (x / 2^t) v is q modulo n
pub quotient_by_inverse : (x y n t o v r : ℕ) → 0 < y → y ∣ x → x < n → 2 ^ t * o ≡ y → o * v % n ≡ 1 → r ≡ x / 2 ^ t * v % n → r ≡ x / y
quotient_by_inverse x y n t o v r some h small ey is er =
    let q : ℕ = x / y in
    let whole : y * q ≡ x = mul-div_cancel' y h in
    let parts : x ≡ 2 ^ t * (o * q) = sym whole ∙ ap (λ (z : ℕ). z * q) (sym ey) ∙ omega arith in
    let shifted : x / 2 ^ t ≡ o * q = ap (λ (z : ℕ). z / 2 ^ t) parts ∙ mul-div_cancel_left (o * q) (pow_pos t) in
    let few : q < n = let less : q ≤ x = div-le_self x y in omega arith in
    er
    ∙ ap (λ (z : ℕ). z * v % n) shifted
    ∙ ap (λ (z : ℕ). z % n) (omega arith)
    ∙ sym (mul-mod_first (o * v) q n)
    ∙ ap (λ (z : ℕ). z * q % n) is
    ∙ ap (λ (z : ℕ). z % n) (omega arith)
    ∙ mod-eq_of_lt few
