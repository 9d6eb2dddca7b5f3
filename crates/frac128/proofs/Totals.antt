-- Sums of products over one denominator.
use mir.Syntax.{w128}
use mir.Val.{to_z, of_z}
use Rattle.std.specs.Prelude.{◌≡◌, ℕ, ℤ, pos, ◌+◌, ◌*◌, ◌/◌, ◌+ℤ◌, ◌*ℤ◌, ◌^◌, ◌<◌, ◌⊎◌, unsigned_abs, IsTrue, refl, List, [], ◌∷◌, length, drop, get_or}
use Rattle.std.specs.Int.{◌∣◌}
use Rattle.std.proofs.Common.{arith, sym, ap, ◌∙◌, subst, inl, inr, mul-pos}
use Rattle.std.proofs.Math.Nat.{div-le_self, mul-div_cancel', dvd-mul_left, pos_of_dvd_of_pos}
use Rattle.std.proofs.lemmas.Int.{unsigned_abs-mul}
use Rattle.std.proofs.lemmas.Nat.{mul-lt}
use Rattle.std.proofs.lemmas.List.{at_drop_more}
use Rattle.exact_field.specs.Gcd.{gcd, gcd_is}
use Rattle.exact_field.specs.Rational.{ℚ, zero_ℚ, fraction, ◌+ℚ◌, ◌*ℚ◌}
use Rattle.exact_field.specs.Ring.{◌⊕◌, ◌⊗◌, v0, v1, v2, v3, v4, v5}
use Rattle.exact_field.proofs.RingTool.{ring, integers}
use Rattle.exact_field.proofs.Products.{IsDotFrom, dot_on}
use Rattle.exact_field.proofs.RationalLaws.{fraction_represents, same_represented, add_represents}
use Rattle.exact_field.proofs.Rationals.{zero_from_num, add-zero_ℚ, zero-mul_ℚ, mul-zero_ℚ}
use Rattle.frac128.specs.Held.{is_held, IsNarrow}
use Rattle.frac128.specs.Signed.{is_below_zero}
use Rattle.frac128.proofs.Compared.{same_bits}
use Rattle.frac128.proofs.Coprime.{abs_sum}
use Rattle.frac128.proofs.Lowest.{IsStored, reduced_lowest, lowest_held, signed_is}
use Rattle.frac128.proofs.Signs.{kept}

-- reducing makes no part greater
pub fraction_held : (n : ℤ) (d : ℕ) → 0 < d → unsigned_abs n < 2 ^ 120 → d < 2 ^ 120 → IsTrue (is_held (fraction n d))
fraction_held n d some hn hd =
    let g : ℕ = gcd (unsigned_abs n) d in
    subst (λ (z : ℤ). IsTrue (is_held (fraction z d))) (signed_is n)
    (lowest_held _ _ _ _ (reduced_lowest (is_below_zero n) (unsigned_abs n) d g _ _ some (gcd_is (unsigned_abs n) d) refl refl)
    (omega (arith, div-le_self (unsigned_abs n) g)) (omega (arith, div-le_self d g)))

-- a sum over one denominator
add_same : (n m : ℤ) (d : ℕ) → 0 < d → fraction (n +ℤ m) d ≡ fraction n d +ℚ fraction m d
add_same n m d some =
    same_represented (fraction (n +ℤ m) d) (fraction n d +ℚ fraction m d) (n +ℤ m) (n *ℤ pos d +ℤ m *ℤ pos d) d (d * d)
    (fraction_represents (n +ℤ m) d some)
    (add_represents (fraction n d) (fraction m d) n m d d (fraction_represents n d some) (fraction_represents m d some))
    (ring integers (n ∷ m ∷ pos d ∷ []) ((v0 ⊕ v1) ⊗ (v2 ⊗ v2)) ((v0 ⊗ v2 ⊕ v1 ⊗ v2) ⊗ v2) refl)

-- and so as it is computed
pub same_den_total : (n m : ℤ) (d e : ℕ) → 0 < e → e ≡ d → unsigned_abs n < 2 ^ 119 → unsigned_abs m < 2 ^ 60 → fraction (to_z w128 (of_z w128 (to_z w128 (of_z w128 n) +ℤ to_z w128 (of_z w128 m)))) e ≡ fraction n d +ℚ fraction m e
same_den_total n m d e some same hn hm =
    ap (λ (z : ℤ). fraction (to_z w128 (of_z w128 (z +ℤ to_z w128 (of_z w128 m)))) e) (kept n (omega arith))
    ∙ ap (λ (z : ℤ). fraction (to_z w128 (of_z w128 (n +ℤ z))) e) (kept m (omega arith))
    ∙ ap (λ (z : ℤ). fraction z e) (kept (n +ℤ m) (omega (arith, abs_sum n m)))
    ∙ add_same n m e some
    ∙ ap (λ (z : ℕ). fraction n z +ℚ fraction m e) same

positive_factor : (g y e : ℕ) → 0 < e → g * y ≡ e → 0 < y
positive_factor g y e h same = pos_of_dvd_of_pos (subst (λ (n : ℕ). y ∣ n) same (dvd-mul_left y g)) h

-- a sum over a common multiple of the denominators
add_other : (n m : ℤ) (d e g x y : ℕ) → 0 < d → 0 < e → g * x ≡ d → g * y ≡ e → fraction (n *ℤ pos y +ℤ m *ℤ pos x) (d * y) ≡ fraction n d +ℚ fraction m e
add_other n m d e g x y hd he ed ee =
    let positive : 0 < d * y = mul-pos hd (positive_factor g y e he ee) in
    same_represented (fraction (n *ℤ pos y +ℤ m *ℤ pos x) (d * y)) (fraction n d +ℚ fraction m e) (n *ℤ pos y +ℤ m *ℤ pos x) (n *ℤ pos e +ℤ m *ℤ pos d) (d * y) (d * e)
    (fraction_represents (n *ℤ pos y +ℤ m *ℤ pos x) (d * y) positive)
    (add_represents (fraction n d) (fraction m e) n m d e (fraction_represents n d hd) (fraction_represents m e he))
    (ap (λ (z : ℕ). (n *ℤ pos y +ℤ m *ℤ pos x) *ℤ (pos d *ℤ pos z)) (sym ee)
    ∙ ring integers (n ∷ m ∷ pos g ∷ pos x ∷ pos y ∷ pos d ∷ []) ((v0 ⊗ v4 ⊕ v1 ⊗ v3) ⊗ (v5 ⊗ (v2 ⊗ v4))) ((v0 ⊗ (v2 ⊗ v4) ⊕ v1 ⊗ (v2 ⊗ v3)) ⊗ (v5 ⊗ v4)) refl
    ∙ ap (λ (z : ℕ). (n *ℤ pos z +ℤ m *ℤ pos (g * x)) *ℤ (pos d *ℤ pos y)) ee
    ∙ ap (λ (z : ℕ). (n *ℤ pos e +ℤ m *ℤ pos z) *ℤ (pos d *ℤ pos y)) ed)

-- and so as it is computed
pub common_total : (n m : ℤ) (d e g x y : ℕ) (t : ℤ) (k : ℕ) → 0 < d → 0 < e → g * x ≡ d → g * y ≡ e → t ≡ n *ℤ pos y +ℤ m *ℤ pos x → k ≡ d * y → fraction t k ≡ fraction n d +ℚ fraction m e
common_total n m d e g x y t k hd he ed ee et ek =
    ap (λ (z : ℤ). fraction z k) et
    ∙ ap (fraction (n *ℤ pos y +ℤ m *ℤ pos x)) ek
    ∙ add_other n m d e g x y hd he ed ee

pub multiple_positive : (d e g y k : ℕ) → 0 < d → 0 < e → g * y ≡ e → k ≡ d * y → 0 < k
multiple_positive d e g y k hd he ee ek = subst (λ (z : ℕ). 0 < z) (sym ek) (mul-pos hd (positive_factor g y e he ee))

-- a divisor times the quotient by it
pub times_quotient : (d g x : ℕ) → g ∣ d → x ≡ d / g → g * x ≡ d
times_quotient d g x divides ex = ap (λ (z : ℕ). g * z) ex ∙ mul-div_cancel' g divides

-- ---- a product

product_parts : (p q : ℚ) (n m : ℤ) (b d : ℕ) → IsStored p n b → IsStored q m d → fraction (n *ℤ m) (b * d) ≡ p *ℚ q
unfolding ◌*ℚ◌
product_parts p q n m b d sp sq =
    ap (λ (z : ℤ). fraction (z *ℤ m) (b * d)) sp.num
    ∙ ap (λ (z : ℤ). fraction (p.num *ℤ z) (b * d)) sq.num
    ∙ ap (λ (z : ℕ). fraction (p.num *ℤ q.num) (z * d)) sp.den
    ∙ ap (λ (z : ℕ). fraction (p.num *ℤ q.num) (p.den * z)) sq.den

-- the product r of two stored numerators, over that of the denominators
pub product_total : (p q : ℚ) (n m r : ℤ) (b d : ℕ) → IsStored p n b → IsStored q m d → unsigned_abs n < 2 ^ 120 → unsigned_abs m < 2 ^ 120 → r ≡ to_z w128 (of_z w128 n) *ℤ to_z w128 (of_z w128 m) → unsigned_abs r < 2 ^ 60 → fraction (to_z w128 (of_z w128 r)) (b * d) ≡ p *ℚ q
product_total p q n m r b d sp sq hn hm e hr =
    ap (λ (z : ℤ). fraction z (b * d))
    (kept r (omega arith) ∙ e ∙ ap (λ (z : ℤ). z *ℤ to_z w128 (of_z w128 m)) (kept n hn) ∙ ap (λ (z : ℤ). n *ℤ z) (kept m hm))
    ∙ product_parts p q n m b d sp sq

narrow_product : (x y : ℕ) → x < 2 ^ 30 → y < 2 ^ 30 → x * y < 2 ^ 120
narrow_product x y hx hy = omega (arith, mul-lt x y (2 ^ 30) (2 ^ 30) hx hy)

pub narrow_held : (p q : ℚ) → IsNarrow p → IsNarrow q → IsTrue (is_held (p *ℚ q))
unfolding ◌*ℚ◌
narrow_held p q hp hq =
    fraction_held (p.num *ℤ q.num) (p.den * q.den) (mul-pos p.positive q.positive)
    (omega (arith, unsigned_abs-mul p.num q.num, narrow_product (unsigned_abs p.num) (unsigned_abs q.num) hp.num hq.num))
    (narrow_product p.den q.den hp.den hq.den)

num_zero : (q : ℚ) (n : ℤ) (b : ℕ) → IsStored q n b → unsigned_abs n < 2 ^ 120 → of_z w128 n ≡ 0 → q ≡ zero_ℚ
num_zero q n b st h e = zero_from_num q (sym st.num ∙ same_bits n (pos 0) h (omega arith) e)

-- a product with a factor that is 0
pub product_zero : {other : Type 0} (p q : ℚ) (n m : ℤ) (b d : ℕ) → IsStored p n b → IsStored q m d → unsigned_abs n < 2 ^ 120 → unsigned_abs m < 2 ^ 120 → (of_z w128 n ≡ 0) ⊎ (other × (of_z w128 m ≡ 0)) → p *ℚ q ≡ zero_ℚ
product_zero p q n m b d sp sq hn hm (inl e) = ap (λ (z : ℚ). z *ℚ q) (num_zero p n b sp hn e) ∙ zero-mul_ℚ q
product_zero p q n m b d sp sq hn hm (inr e) = ap (λ (z : ℚ). p *ℚ z) (num_zero q m d sq hm e.1) ∙ mul-zero_ℚ p

-- 0 changes no total
pub add_nothing : (total r : ℚ) → r ≡ zero_ℚ → total ≡ total +ℚ r
add_nothing total r e = sym (ap (λ (z : ℚ). total +ℚ z) e ∙ add-zero_ℚ total)

-- ---- the product of two vectors

-- what is left from a place on
left_from : (xs : List ℚ) (i : ℕ) (x : ℚ) → i < length xs → x ≡ get_or xs i x → drop i xs ≡ x ∷ drop (i + 1) xs
left_from xs i x within is = at_drop_more (λ (zs : List ℚ). zs) xs i x within ∙ ap (λ (z : ℚ). z ∷ drop (i + 1) xs) (sym is)

-- one more place of the product of two vectors
pub dot_more : (xs ys : List ℚ) (i : ℕ) (x y total next : ℚ) → i < length xs → length xs ≡ length ys → x ≡ get_or xs i x → y ≡ get_or ys i y → IsDotFrom is_held xs ys i total → next ≡ total +ℚ x *ℚ y → IsTrue (is_held (x *ℚ y)) → IsTrue (is_held next) → IsDotFrom is_held xs ys (i + 1) next
dot_more xs ys i x y total next within same is_x is_y =
    dot_on is_held xs ys i x y total next (left_from xs i x within is_x) (left_from ys i y (omega arith) is_y)
