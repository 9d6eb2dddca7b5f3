-- The laws of the whole numbers: a commutative ring, and how their order goes with sums and products.
use Rattle.std.specs.Prelude.{◌≡◌, ℕ, ℤ, pos, negsuc, neg_ℤ, ◌+ℤ◌, ◌*ℤ◌, ◌*◌, ◌+◌, ◌<◌, ◌≤◌, refl, int_le, int_lt, not, Bool, true, false, IsTrue}
use Rattle.std.proofs.Common.{arith, sym, ap, ◌∙◌, mul-le-mul_right, le_of_mul-le-mul_right}
use Rattle.std.proofs.Math.Nat.{eq_of_mul-eq-mul_right}
use Rattle.std.proofs.lemmas.Int.{ints}
use borrow.Author.Differences.{up, down, same_in, same_out, sum_is_lem, product_is, neg_is, le-true, true_is_le}

pub add_comm_ℤ : (a b : ℤ) → a +ℤ b ≡ b +ℤ a
add_comm_ℤ a b = omega (arith, ints)

pub add_assoc_ℤ : (a b c : ℤ) → a +ℤ b +ℤ c ≡ a +ℤ (b +ℤ c)
add_assoc_ℤ a b c = omega (arith, ints)

pub add-zero_ℤ : (a : ℤ) → a +ℤ pos 0 ≡ a
add-zero_ℤ a = omega (arith, ints)

pub add-neg_ℤ : (a : ℤ) → a +ℤ neg_ℤ a ≡ pos 0
add-neg_ℤ a = omega (arith, ints)

pub mul_comm_ℤ : (a b : ℤ) → a *ℤ b ≡ b *ℤ a
mul_comm_ℤ a b = omega (arith, ints)

pub mul-one_ℤ : (a : ℤ) → a *ℤ pos 1 ≡ a
mul-one_ℤ a = omega (arith, ints)

pub mul-zero_ℤ : (a : ℤ) → a *ℤ pos 0 ≡ pos 0
mul-zero_ℤ a = omega (arith, ints)

pub zero-mul_ℤ : (a : ℤ) → pos 0 *ℤ a ≡ pos 0
zero-mul_ℤ a = omega (arith, ints)

pub mul-neg_ℤ : (a b : ℤ) → a *ℤ neg_ℤ b ≡ neg_ℤ (a *ℤ b)
mul-neg_ℤ a b =
    let n = neg_is b in
    let left = product_is a (neg_ℤ b) in
    let right = product_is a b in
    let at_up : up a * up (neg_ℤ b) ≡ up a * down b = ap (λ (n : ℕ). up a * n) n.0 in
    let at_down : up a * down (neg_ℤ b) ≡ up a * up b = ap (λ (n : ℕ). up a * n) n.1 in
    let at_up' : down a * up (neg_ℤ b) ≡ down a * down b = ap (λ (n : ℕ). down a * n) n.0 in
    let at_down' : down a * down (neg_ℤ b) ≡ down a * up b = ap (λ (n : ℕ). down a * n) n.1 in
    same_in (a *ℤ neg_ℤ b) (neg_ℤ (a *ℤ b)) (omega (arith, neg_is (a *ℤ b)))

pub neg-mul_ℤ : (a b : ℤ) → neg_ℤ a *ℤ b ≡ neg_ℤ (a *ℤ b)
neg-mul_ℤ a b = mul_comm_ℤ (neg_ℤ a) b ∙ mul-neg_ℤ b a ∙ ap neg_ℤ (mul_comm_ℤ b a)

pub mul_assoc_ℤ : (a b c : ℤ) → a *ℤ b *ℤ c ≡ a *ℤ (b *ℤ c)
mul_assoc_ℤ a b c =
    let ab = product_is a b in
    let bc = product_is b c in
    let left = product_is (a *ℤ b) c in
    let right = product_is a (b *ℤ c) in
    let l1 : up (a *ℤ b) * up c ≡ (up a * up b + down a * down b) * up c = ap (λ (n : ℕ). n * up c) ab.0 in
    let l2 : up (a *ℤ b) * down c ≡ (up a * up b + down a * down b) * down c = ap (λ (n : ℕ). n * down c) ab.0 in
    let l3 : down (a *ℤ b) * up c ≡ (up a * down b + down a * up b) * up c = ap (λ (n : ℕ). n * up c) ab.1 in
    let l4 : down (a *ℤ b) * down c ≡ (up a * down b + down a * up b) * down c = ap (λ (n : ℕ). n * down c) ab.1 in
    let r1 : up a * up (b *ℤ c) ≡ up a * (up b * up c + down b * down c) = ap (λ (n : ℕ). up a * n) bc.0 in
    let r2 : down a * up (b *ℤ c) ≡ down a * (up b * up c + down b * down c) = ap (λ (n : ℕ). down a * n) bc.0 in
    let r3 : up a * down (b *ℤ c) ≡ up a * (up b * down c + down b * up c) = ap (λ (n : ℕ). up a * n) bc.1 in
    let r4 : down a * down (b *ℤ c) ≡ down a * (up b * down c + down b * up c) = ap (λ (n : ℕ). down a * n) bc.1 in
    same_in (a *ℤ b *ℤ c) (a *ℤ (b *ℤ c)) (omega arith)

pub mul-add_ℤ : (a b c : ℤ) → a *ℤ (b +ℤ c) ≡ a *ℤ b +ℤ a *ℤ c
mul-add_ℤ a b c =
    let s = sum_is_lem b c in
    let u : up a * (up (b +ℤ c) + down b + down c) ≡ up a * (down (b +ℤ c) + up b + up c) = ap (λ (n : ℕ). up a * n) s in
    let d : down a * (up (b +ℤ c) + down b + down c) ≡ down a * (down (b +ℤ c) + up b + up c) = ap (λ (n : ℕ). down a * n) s in
    same_in (a *ℤ (b +ℤ c)) (a *ℤ b +ℤ a *ℤ c) (omega (arith, product_is a (b +ℤ c), product_is a b, product_is a c, sum_is_lem (a *ℤ b) (a *ℤ c)))

-- a positive factor can be taken off both sides
pub mul-positive_cancel : (a b : ℤ) (d : ℕ) → 0 < d → a *ℤ pos d ≡ b *ℤ pos d → a ≡ b
mul-positive_cancel a b d h e =
    let left = product_is a (pos d) in
    let right = product_is b (pos d) in
    let parts = same_out (a *ℤ pos d) (b *ℤ pos d) e in
    let ups : up a * d ≡ up b * d = omega arith in
    let downs : down a * d ≡ down b * d = omega arith in
    let u : up a ≡ up b = eq_of_mul-eq-mul_right d h (up a) (up b) ups in
    let w : down a ≡ down b = eq_of_mul-eq-mul_right d h (down a) (down b) downs in
    same_in a b (omega arith)

-- two tests that pass together are one
pub same_test : (s t : Bool) → (IsTrue s → IsTrue t) → (IsTrue t → IsTrue s) → s ≡ t
same_test true true f g = refl
same_test true false f g = sym (f refl)
same_test false true f g = g refl
same_test false false f g = refl

pub not-le_ℤ : (a b : ℤ) → not (int_le b a) ≡ int_lt a b
not-le_ℤ a b = same_test (not (int_le b a)) (int_lt a b) (λ h. grind (arith, ints)) (λ h. grind (arith, ints))

le_forward : (a b : ℤ) (d : ℕ) → IsTrue (int_le a b) → IsTrue (int_le (a *ℤ pos d) (b *ℤ pos d))
le_forward a b d h =
    let few : up a + down b ≤ up b + down a = le-true a b h in
    let many : (up a + down b) * d ≤ (up b + down a) * d = mul-le-mul_right d few in
    sym (true_is_le (a *ℤ pos d) (b *ℤ pos d) (omega (arith, product_is a (pos d), product_is b (pos d))))

le_back : (a b : ℤ) (d : ℕ) → 0 < d → IsTrue (int_le (a *ℤ pos d) (b *ℤ pos d)) → IsTrue (int_le a b)
le_back a b d h t =
    let all : up (a *ℤ pos d) + down (b *ℤ pos d) ≤ up (b *ℤ pos d) + down (a *ℤ pos d) = le-true (a *ℤ pos d) (b *ℤ pos d) t in
    let many : (up a + down b) * d ≤ (up b + down a) * d = omega (arith, product_is a (pos d), product_is b (pos d)) in
    sym (true_is_le a b (le_of_mul-le-mul_right {m = up a + down b} {n = up b + down a} {k = d} many h))

-- a positive factor on both sides does not change an order
pub le-mul_positive : (a b : ℤ) (d : ℕ) → 0 < d → int_le (a *ℤ pos d) (b *ℤ pos d) ≡ int_le a b
le-mul_positive a b d h = same_test (int_le (a *ℤ pos d) (b *ℤ pos d)) (int_le a b) (le_back a b d h) (le_forward a b d)

-- ---- the order, by differences

-- a is at most b exactly where their difference is at least 0
pub le-difference_ℤ : (a b : ℤ) → int_le a b ≡ int_le (pos 0) (b +ℤ neg_ℤ a)
le-difference_ℤ a b = same_test (int_le a b) (int_le (pos 0) (b +ℤ neg_ℤ a)) (λ h. grind (arith, ints)) (λ h. grind (arith, ints))

pub le_total_ℤ : (a b : ℤ) → int_le a b ≡ false → IsTrue (int_le b a)
le_total_ℤ a b h = grind (arith, ints)

pub le_antisym_ℤ : (a b : ℤ) → IsTrue (int_le a b) → IsTrue (int_le b a) → a ≡ b
le_antisym_ℤ a b h k = omega (arith, ints)

pub add-nonnegative_ℤ : (a b : ℤ) → IsTrue (int_le (pos 0) a) → IsTrue (int_le (pos 0) b) → IsTrue (int_le (pos 0) (a +ℤ b))
add-nonnegative_ℤ a b h k = grind (arith, ints)

pub zero-le-pos : (n : ℕ) → IsTrue (int_le (pos 0) (pos n))
zero-le-pos n = sym (true_is_le (pos 0) (pos n) (omega arith))

pub mul-nonnegative_ℤ : (a b : ℤ) → IsTrue (int_le (pos 0) a) → IsTrue (int_le (pos 0) b) → IsTrue (int_le (pos 0) (a *ℤ b))
mul-nonnegative_ℤ (pos m) (pos n) h k = zero-le-pos (m * n)
mul-nonnegative_ℤ (pos m) (negsuc n) h k = cc
mul-nonnegative_ℤ (negsuc m) b h k = cc

-- a positive factor keeps the sign
pub nonnegative-mul_positive : (a : ℤ) (d : ℕ) → 0 < d → int_le (pos 0) (a *ℤ pos d) ≡ int_le (pos 0) a
nonnegative-mul_positive a d h = ap (λ (x : ℤ). int_le x (a *ℤ pos d)) (sym (zero-mul_ℤ (pos d))) ∙ le-mul_positive (pos 0) a d h
