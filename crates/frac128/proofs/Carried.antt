-- What the carrying of two products keeps.
use Rattle.std.specs.Prelude.{◌≡◌, ℕ, ℤ, pos, ◌+◌, ◌-◌, ◌*◌, ◌+ℤ◌, ◌*ℤ◌, ◌^◌, ◌<◌, ◌≤◌, ◌⊎◌, refl, unsigned_abs, [], ◌∷◌}
use Rattle.std.proofs.Common.{arith, sym, ap, ◌∙◌, subst, inl, inr}
use Rattle.std.proofs.Math.Nat.{pow-le-pow_right, mul-le-mul_left}
use Rattle.std.proofs.lemmas.Bool.{cases_lt}
use Rattle.std.proofs.lemmas.Nat.{pow_pos, pow-add, mul-lt}
use Rattle.std.proofs.lemmas.Int.{to_z-of_z, to_z_pos, fits_signed_from_abs, unsigned_abs-mul}
use mir.Syntax.{w128}
use mir.Val.{SFits, to_z, of_z}
use Rattle.exact_field.specs.Ring.{num, ◌⊕◌, ◌⊗◌, v0, v1, v2, v3, v4, v5}
use Rattle.exact_field.proofs.RingTool.{ring, integers}
use Rattle.frac128.proofs.Carry.{far_at_end, far_quotient}
use Rattle.frac128.proofs.Coprime.{abs_sum}
use Rattle.frac128.specs.declared.joint.Carry.{Carry}
use Rattle.frac128.specs.declared.joint.Mixed.{Mixed}
use Rattle.frac128.specs.Mixed.{mixed_value, IsMixed}

-- above the lowest `place` bits of the multipliers the products are in the sum, and those bits are left
pub record IsCarried (divisor : ℕ) (total : ℤ) (first second : Mixed) (place : ℕ) (s : Carry) : Type 0 where
  pub value : pos (2 ^ place) *ℤ mixed_value divisor s.sum +ℤ mixed_value divisor first *ℤ pos s.left +ℤ mixed_value divisor second *ℤ pos s.right ≡ total
  pub rest : s.sum.rest < divisor
  pub near : unsigned_abs s.sum.whole < 2 ^ 122
  pub left : s.left < 2 ^ place
  pub right : s.right < 2 ^ place
  pub bound : place ≤ 120

-- before the first turn all is left
pub carried_first : (divisor : ℕ) (first second : Mixed) (x y top n place : ℕ) → 0 < divisor → x ≤ top → y ≤ top → top < 2 ^ n → n ≤ place → place ≤ 120 → IsCarried divisor (mixed_value divisor first *ℤ pos x +ℤ mixed_value divisor second *ℤ pos y) first second place (record { sum = record { whole = pos 0; rest = 0 }; left = x; right = y })
carried_first divisor first second x y top n place some hx hy below h bound =
    let more : 2 ^ n ≤ 2 ^ place = pow-le-pow_right {n = 2} (omega arith) h in
    record {
      value = ring integers (pos (2 ^ place) ∷ pos divisor ∷ mixed_value divisor first ∷ pos x ∷ mixed_value divisor second ∷ pos y ∷ []) (v0 ⊗ (num (pos 0) ⊗ v1 ⊕ num (pos 0)) ⊕ v2 ⊗ v3 ⊕ v4 ⊗ v5) (v2 ⊗ v3 ⊕ v4 ⊗ v5) refl;
      rest = some;
      near = omega arith;
      left = omega arith;
      right = omega arith;
      bound = bound;
    }

-- what a turn of four bits gives
pub record IsAdvanced (divisor : ℕ) (first second : Mixed) (place : ℕ) (s u : Carry) : Type 0 where
  pub value : pos (2 ^ place) *ℤ mixed_value divisor u.sum +ℤ mixed_value divisor first *ℤ pos u.left +ℤ mixed_value divisor second *ℤ pos u.right ≡ pos (2 ^ (place + 4)) *ℤ mixed_value divisor s.sum +ℤ mixed_value divisor first *ℤ pos s.left +ℤ mixed_value divisor second *ℤ pos s.right
  pub rest : u.sum.rest < divisor
  pub left : u.left < 2 ^ place
  pub right : u.right < 2 ^ place

pub carried_on : (divisor : ℕ) (total : ℤ) (first second : Mixed) (place : ℕ) (s u : Carry) → IsCarried divisor total first second (place + 4) s → IsAdvanced divisor first second place s u → unsigned_abs u.sum.whole < 2 ^ 122 → IsCarried divisor total first second place u
carried_on divisor total first second place s u was step near =
    record {
      value = step.value ∙ was.value;
      rest = step.rest;
      near = near;
      left = step.left;
      right = step.right;
      bound = let b : place + 4 ≤ 120 = was.bound in omega arith;
    }

-- the place before a turn
pub carried_at : (divisor : ℕ) (total : ℤ) (first second : Mixed) (turns : ℕ) (s : Carry) → 0 < turns → IsCarried divisor total first second (4 * turns) s → IsCarried divisor total first second (4 * (turns - 1) + 4) s
carried_at divisor total first second turns s h was =
    let same : 4 * turns ≡ 4 * (turns - 1) + 4 = omega arith in subst (λ (n : ℕ). IsCarried divisor total first second n s) same was

far_sizes : (d f s v q : ℕ) → 0 < d → f < 2 ^ 120 → s < 2 ^ 120 → 2 ^ 122 ≤ q → (2 ^ 122 - 1) * d ≤ v → f + s + 2 ^ 120 * d ≤ v
far_sizes d f s v q h hf hs big own = omega arith

-- a sum too far from 0 for what is left to come
pub carried_far : (divisor : ℕ) (total : ℤ) (first second : Mixed) (place : ℕ) (s u : Carry) → IsCarried divisor total first second (place + 4) s → IsAdvanced divisor first second place s u → 0 < divisor → unsigned_abs (mixed_value divisor first) < 2 ^ 120 → unsigned_abs (mixed_value divisor second) < 2 ^ 120 → 2 ^ 122 ≤ unsigned_abs u.sum.whole → 2 ^ 120 * divisor ≤ unsigned_abs total
carried_far divisor total first second place s u was step some f_small s_small big =
    let left : u.left < 2 ^ place = step.left in
    let right : u.right < 2 ^ place = step.right in
    far_at_end (2 ^ place) u.left u.right (mixed_value divisor u.sum) (mixed_value divisor first) (mixed_value divisor second) total (2 ^ 120 * divisor)
    (pow_pos place) (omega arith) (omega arith)
    (step.value ∙ was.value)
    (far_sizes divisor (unsigned_abs (mixed_value divisor first)) (unsigned_abs (mixed_value divisor second)) (unsigned_abs (mixed_value divisor u.sum)) (unsigned_abs u.sum.whole) some f_small s_small big
    (far_quotient divisor u.sum.whole u.sum.rest (2 ^ 122 - 1) step.rest (omega arith)))

below_one : (n : ℕ) → n < 2 ^ 0 → n ≡ 0
below_one n h = omega arith

-- at the end the sum is the whole
pub carried_all : (divisor : ℕ) (total : ℤ) (first second : Mixed) (place : ℕ) (s : Carry) → IsCarried divisor total first second place s → place ≡ 0 → IsMixed divisor total s.sum
carried_all divisor total first second place s was e =
    let left : s.left ≡ 0 = below_one s.left (subst (λ (n : ℕ). s.left < 2 ^ n) e was.left) in
    let right : s.right ≡ 0 = below_one s.right (subst (λ (n : ℕ). s.right < 2 ^ n) e was.right) in
    record {
      value =
          ring integers (mixed_value divisor s.sum ∷ mixed_value divisor first ∷ mixed_value divisor second ∷ []) v0 (num (pos 1) ⊗ v0 ⊕ v1 ⊗ num (pos 0) ⊕ v2 ⊗ num (pos 0)) refl
          ∙ ap (λ (n : ℕ). pos 1 *ℤ mixed_value divisor s.sum +ℤ mixed_value divisor first *ℤ pos n +ℤ mixed_value divisor second *ℤ pos 0) (sym left)
          ∙ ap (λ (n : ℕ). pos 1 *ℤ mixed_value divisor s.sum +ℤ mixed_value divisor first *ℤ pos s.left +ℤ mixed_value divisor second *ℤ pos n) (sym right)
          ∙ ap (λ (n : ℕ). pos (2 ^ n) *ℤ mixed_value divisor s.sum +ℤ mixed_value divisor first *ℤ pos s.left +ℤ mixed_value divisor second *ℤ pos s.right) (sym e)
          ∙ was.value;
      rest = was.rest;
      near = was.near;
    }

below_power_by : (n m k : ℕ) → 2 ^ n ≤ m → m < 2 ^ k → (n < k) ⊎ (k ≤ n) → n < k
below_power_by n m k low high (inl h) = h
below_power_by n m k low high (inr h) = let more : 2 ^ k ≤ 2 ^ n = pow-le-pow_right {n = 2} (omega arith) h in absurd (omega arith)

-- a power of 2 below another has a lower exponent
pub below_power : (n m k : ℕ) → 2 ^ n ≤ m → m < 2 ^ k → n < k
below_power n m k low high = below_power_by n m k low high (cases_lt n k)

bits_by : (n m k : ℕ) → (0 < m → 2 ^ n ≤ 2 * m) → (m ≡ 0 → n ≡ 0) → m < 2 ^ k → (m < 1) ⊎ (1 ≤ m) → n < k + 1
bits_by n m k reached none below (inl h) = let zero : n ≡ 0 = none (omega arith) in omega arith
bits_by n m k reached none below (inr h) = below_power n (2 * m) (k + 1) (reached h) (omega (arith, pow-add 2 k 1))

-- a number below a power of 2 has no more bits than the exponent
pub fewer_bits_than : (n m k : ℕ) → (0 < m → 2 ^ n ≤ 2 * m) → (m ≡ 0 → n ≡ 0) → m < 2 ^ k → n < k + 1
fewer_bits_than n m k reached none below = bits_by n m k reached none below (cases_lt m 1)

-- the total, where the terms are a and c
pub same_total : (a c f s : ℤ) (x y : ℕ) → f ≡ a → s ≡ c → f *ℤ pos x +ℤ s *ℤ pos y ≡ a *ℤ pos x +ℤ c *ℤ pos y
same_total a c f s x y e g = ap (λ (z : ℤ). z *ℤ pos x +ℤ s *ℤ pos y) e ∙ ap (λ (z : ℤ). a *ℤ pos x +ℤ z *ℤ pos y) g

-- ---- short products

pub short_product : (i j x y : ℕ) → x < 2 ^ i → y < 2 ^ j → i + j ≤ 126 → x * y < 2 ^ 126
short_product i j x y hx hy h =
    let one : x * y < 2 ^ i * 2 ^ j = mul-lt x y (2 ^ i) (2 ^ j) hx hy in
    let two : 2 ^ (i + j) ≤ 2 ^ 126 = pow-le-pow_right {n = 2} (omega arith) h in
    omega (arith, pow-add 2 i j)

computed_product : (a : ℤ) (x : ℕ) → SFits w128 a → x < 2 ^ 127 → unsigned_abs a * x < 2 ^ 126 → to_z w128 (of_z w128 (to_z w128 (of_z w128 a) *ℤ to_z w128 x)) ≡ a *ℤ pos x
computed_product a x f h small =
    ap (λ (z : ℤ). to_z w128 (of_z w128 (z *ℤ to_z w128 x))) (to_z-of_z w128 a f)
    ∙ ap (λ (z : ℤ). to_z w128 (of_z w128 (a *ℤ z))) (to_z_pos w128 x h)
    ∙ to_z-of_z w128 (a *ℤ pos x) (fits_signed_from_abs w128 (a *ℤ pos x) (omega (arith, unsigned_abs-mul a (pos x))))

-- a sum of two short products, as it is computed
pub computed_sum : (a c : ℤ) (x y : ℕ) → SFits w128 a → SFits w128 c → x < 2 ^ 127 → y < 2 ^ 127 → unsigned_abs a * x < 2 ^ 126 → unsigned_abs c * y < 2 ^ 126 → to_z w128 (of_z w128 (to_z w128 (of_z w128 (to_z w128 (of_z w128 a) *ℤ to_z w128 x)) +ℤ to_z w128 (of_z w128 (to_z w128 (of_z w128 c) *ℤ to_z w128 y)))) ≡ a *ℤ pos x +ℤ c *ℤ pos y
computed_sum a c x y fa fc hx hy sa sc =
    ap (λ (z : ℤ). to_z w128 (of_z w128 (z +ℤ to_z w128 (of_z w128 (to_z w128 (of_z w128 c) *ℤ to_z w128 y))))) (computed_product a x fa hx sa)
    ∙ ap (λ (z : ℤ). to_z w128 (of_z w128 (a *ℤ pos x +ℤ z))) (computed_product c y fc hy sc)
    ∙ to_z-of_z w128 (a *ℤ pos x +ℤ c *ℤ pos y)
    (fits_signed_from_abs w128 (a *ℤ pos x +ℤ c *ℤ pos y)
    (omega (arith, abs_sum (a *ℤ pos x) (c *ℤ pos y), unsigned_abs-mul a (pos x), unsigned_abs-mul c (pos y))))

-- ---- a sum and a number times a digit

product_below : (n x : ℕ) → n < 2 ^ 122 → x ≤ 16 → n * x ≤ 16 * n
product_below n x h small = let few : n * x ≤ n * 16 = mul-le-mul_left n small in omega arith

pub computed_scaled : (s n : ℤ) (x : ℕ) → SFits w128 s → SFits w128 n → unsigned_abs s < 2 ^ 125 + 2 ^ 7 → unsigned_abs n < 2 ^ 122 → x ≤ 16 → to_z w128 (of_z w128 (to_z w128 (of_z w128 s) +ℤ to_z w128 (of_z w128 (to_z w128 (of_z w128 n) *ℤ to_z w128 x)))) ≡ s +ℤ n *ℤ pos x
computed_scaled s n x fs fn hs hn hx =
    let few : unsigned_abs n * x ≤ 16 * unsigned_abs n = product_below (unsigned_abs n) x hn hx in
    ap (λ (z : ℤ). to_z w128 (of_z w128 (z +ℤ to_z w128 (of_z w128 (to_z w128 (of_z w128 n) *ℤ to_z w128 x))))) (to_z-of_z w128 s fs)
    ∙ ap (λ (z : ℤ). to_z w128 (of_z w128 (s +ℤ z))) (computed_product n x fn (omega arith) (omega arith))
    ∙ to_z-of_z w128 (s +ℤ n *ℤ pos x) (fits_signed_from_abs w128 (s +ℤ n *ℤ pos x) (omega (arith, abs_sum s (n *ℤ pos x), unsigned_abs-mul n (pos x))))

pub scaled_size : (s n : ℤ) (x : ℕ) → unsigned_abs n < 2 ^ 122 → x ≤ 16 → unsigned_abs (s +ℤ n *ℤ pos x) ≤ unsigned_abs s + 16 * unsigned_abs n
scaled_size s n x hn hx =
    let few : unsigned_abs n * x ≤ 16 * unsigned_abs n = product_below (unsigned_abs n) x hn hx in
    omega (arith, abs_sum s (n *ℤ pos x), unsigned_abs-mul n (pos x))
