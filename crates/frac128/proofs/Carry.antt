-- Numbers by quotient and remainder: their sums, and how far one that is carried from the top bit can be from its end.
use Rattle.std.specs.Prelude.{◌≡◌, ◌⊎◌, ℕ, ℤ, pos, neg_ℤ, ◌+ℤ◌, ◌-ℤ◌, ◌*ℤ◌, ◌<ℤ◌, ◌*◌, ◌+◌, ◌<◌, ◌≤◌, refl, unsigned_abs, [], ◌∷◌}
use Rattle.std.proofs.Common.{arith, ap, ◌∙◌, inl, inr, mul-le-mul_right}
use Rattle.std.proofs.lemmas.Bool.{cases_lt}
use Rattle.std.proofs.Math.Nat.{mul-le-mul_left}
use Rattle.std.proofs.lemmas.Int.{ints, unsigned_abs-mul}
use Rattle.exact_field.specs.Ring.{num, var, ◌⊕◌, ◌⊗◌, ⊖, ◌⊝◌, v0, v1, v2, v3, v4, v5}
use Rattle.exact_field.proofs.RingTool.{ring, ring_by, integers}
use Rattle.frac128.proofs.Coprime.{abs_summand}

-- a sum times 16 and two terms times a digit each, by quotients and remainders
pub digit_value : (d : ℕ) (w s f c : ℤ) (n p r t x y q : ℕ) → w ≡ s *ℤ pos 16 +ℤ f *ℤ pos x +ℤ c *ℤ pos y +ℤ pos q → q * d + n ≡ p * 16 + r * x + t * y → w *ℤ pos d +ℤ pos n ≡ pos 16 *ℤ (s *ℤ pos d +ℤ pos p) +ℤ (f *ℤ pos d +ℤ pos r) *ℤ pos x +ℤ (c *ℤ pos d +ℤ pos t) *ℤ pos y
digit_value d w s f c n p r t x y q ew en =
    ap (λ (z : ℤ). z *ℤ pos d +ℤ pos n) ew
    ∙ ring integers (s ∷ f ∷ pos x ∷ c ∷ pos y ∷ pos q ∷ pos d ∷ pos n ∷ [])
    ((v0 ⊗ num (pos 16) ⊕ v1 ⊗ v2 ⊕ v3 ⊗ v4 ⊕ v5) ⊗ var 6 ⊕ var 7)
    ((v0 ⊗ num (pos 16) ⊕ v1 ⊗ v2 ⊕ v3 ⊗ v4) ⊗ var 6 ⊕ (v5 ⊗ var 6 ⊕ var 7)) refl
    ∙ ap (λ (z : ℕ). (s *ℤ pos 16 +ℤ f *ℤ pos x +ℤ c *ℤ pos y) *ℤ pos d +ℤ pos z) en
    ∙ ring integers (s ∷ f ∷ pos x ∷ c ∷ pos y ∷ pos d ∷ pos p ∷ pos r ∷ pos t ∷ [])
    ((v0 ⊗ num (pos 16) ⊕ v1 ⊗ v2 ⊕ v3 ⊗ v4) ⊗ v5 ⊕ (var 6 ⊗ num (pos 16) ⊕ var 7 ⊗ v2 ⊕ var 8 ⊗ v4))
    (num (pos 16) ⊗ (v0 ⊗ v5 ⊕ var 6) ⊕ (v1 ⊗ v5 ⊕ var 7) ⊗ v2 ⊕ (v3 ⊗ v5 ⊕ var 8) ⊗ v4) refl

-- the quotient of a turn, as it is computed
pub scaled_thrice : (w b a s f c q s' f' c' a' b' : ℤ) (x y k : ℕ) → a ≡ q +ℤ f' *ℤ pos x → b ≡ a' +ℤ c' *ℤ pos y → w ≡ b' +ℤ s' *ℤ pos 16 → q ≡ pos k → f' ≡ f → c' ≡ c → s' ≡ s → a' ≡ a → b' ≡ b → w ≡ s *ℤ pos 16 +ℤ f *ℤ pos x +ℤ c *ℤ pos y +ℤ pos k
scaled_thrice w b a s f c q s' f' c' a' b' x y k ea eb ew eq ef ec es ta tb =
    ew
    ∙ ap (λ (z : ℤ). b' +ℤ z *ℤ pos 16) es
    ∙ ap (λ (z : ℤ). z +ℤ s *ℤ pos 16) (tb ∙ eb ∙ ap (λ (z : ℤ). z +ℤ c' *ℤ pos y) (ta ∙ ea))
    ∙ ap (λ (z : ℤ). q +ℤ f' *ℤ pos x +ℤ z *ℤ pos y +ℤ s *ℤ pos 16) ec
    ∙ ap (λ (z : ℤ). q +ℤ z *ℤ pos x +ℤ c *ℤ pos y +ℤ s *ℤ pos 16) ef
    ∙ ap (λ (z : ℤ). z +ℤ f *ℤ pos x +ℤ c *ℤ pos y +ℤ s *ℤ pos 16) eq
    ∙ ring integers (pos k ∷ f ∷ pos x ∷ c ∷ pos y ∷ s ∷ []) (v0 ⊕ v1 ⊗ v2 ⊕ v3 ⊗ v4 ⊕ v5 ⊗ num (pos 16)) (v5 ⊗ num (pos 16) ⊕ v1 ⊗ v2 ⊕ v3 ⊗ v4 ⊕ v0) refl

below_zero_by : (n : ℤ) (k : ℕ) → k ≡ unsigned_abs n → n <ℤ pos 0 → neg_ℤ (pos k) ≡ n
below_zero_by n k e h = omega (arith, ints)

-- a number below 0 with a remainder that is not negative
pub negative_value : (d q r s : ℕ) (w n : ℤ) → q * d + r ≡ unsigned_abs n → s + r ≡ d → w ≡ neg_ℤ (pos q) -ℤ pos 1 → 0 < r → n <ℤ pos 0 → w *ℤ pos d +ℤ pos s ≡ n
negative_value d q r s w n e f ew some h =
    ap (λ (z : ℤ). z *ℤ pos d +ℤ pos s) ew
    ∙ ring_by integers (pos q ∷ pos d ∷ pos s ∷ pos r ∷ []) ((⊖ v0 ⊝ num (pos 1)) ⊗ v1 ⊕ v2) (⊖ (v0 ⊗ v1 ⊕ v3)) (num (pos 1)) (v2 ⊕ v3) v1 (ap pos f) refl
    ∙ below_zero_by n (q * d + r) e h

-- one turn: the digits of the multipliers go into the sum, and the rest of the multipliers is left
pub turn_value : (w k : ℕ) (s f c g : ℤ) (x y u v l r : ℕ) → g ≡ pos 16 *ℤ s +ℤ f *ℤ pos x +ℤ c *ℤ pos y → x * w + u ≡ l → y * w + v ≡ r → w * 16 ≡ k → pos w *ℤ g +ℤ f *ℤ pos u +ℤ c *ℤ pos v ≡ pos k *ℤ s +ℤ f *ℤ pos l +ℤ c *ℤ pos r
turn_value w k s f c g x y u v l r eg el er ek =
    ap (λ (z : ℤ). pos w *ℤ z +ℤ f *ℤ pos u +ℤ c *ℤ pos v) eg
    ∙ ring integers (pos w ∷ s ∷ f ∷ pos x ∷ c ∷ pos y ∷ pos u ∷ pos v ∷ [])
    (v0 ⊗ (num (pos 16) ⊗ v1 ⊕ v2 ⊗ v3 ⊕ v4 ⊗ v5) ⊕ v2 ⊗ var 6 ⊕ v4 ⊗ var 7)
    ((v0 ⊗ num (pos 16)) ⊗ v1 ⊕ v2 ⊗ (v3 ⊗ v0 ⊕ var 6) ⊕ v4 ⊗ (v5 ⊗ v0 ⊕ var 7)) refl
    ∙ ap (λ (z : ℕ). pos z *ℤ s +ℤ f *ℤ pos (x * w + u) +ℤ c *ℤ pos (y * w + v)) ek
    ∙ ap (λ (z : ℕ). pos k *ℤ s +ℤ f *ℤ pos z +ℤ c *ℤ pos (y * w + v)) el
    ∙ ap (λ (z : ℕ). pos k *ℤ s +ℤ f *ℤ pos l +ℤ c *ℤ pos z) er

few_by : (d q n : ℕ) → 0 < d → q * d ≤ n → n < 64 * d → (q < 64) ⊎ (64 ≤ q) → q < 64
few_by d q n some h below (inl few) = few
few_by d q n some h below (inr many) = let more : 64 * d ≤ q * d = mul-le-mul_right d many in absurd (omega arith)

-- what the remainders of a turn carry into the quotient
pub few_carried : (d q n p r t x y : ℕ) → q * d + n ≡ p * 16 + r * x + t * y → p < d → r < d → t < d → x < 16 → y < 16 → q < 64
few_carried d q n p r t x y e hp hr ht hx hy =
    let first : r * x ≤ r * 15 = mul-le-mul_left r (omega arith) in
    let second : t * y ≤ t * 15 = mul-le-mul_left t (omega arith) in
    few_by d q (p * 16 + r * x + t * y) (omega arith) (omega arith) (omega arith) (cases_lt q 64)

-- ---- sizes

size_of_three : (w x y : ℕ) (s a c t : ℤ) → pos w *ℤ s +ℤ a *ℤ pos x +ℤ c *ℤ pos y ≡ t → w * unsigned_abs s ≤ unsigned_abs t + unsigned_abs a * x + unsigned_abs c * y
size_of_three w x y s a c t e =
    let first = abs_summand (pos w *ℤ s) (a *ℤ pos x) in
    let second = abs_summand (pos w *ℤ s +ℤ a *ℤ pos x) (c *ℤ pos y) in
    omega (arith, first, second, ap unsigned_abs e, unsigned_abs-mul (pos w) s, unsigned_abs-mul a (pos x), unsigned_abs-mul c (pos y))

far_by : (w x y s a c t m : ℕ) → 0 < w → x ≤ w → y ≤ w → a + c + m ≤ s → w * s ≤ t + a * x + c * y → m ≤ t
far_by w x y s a c t m h hx hy big few =
    let one : w * (a + c + m) ≤ w * s = mul-le-mul_left w big in
    let two : a * x ≤ a * w = mul-le-mul_left a hx in
    let three : c * y ≤ c * w = mul-le-mul_left c hy in
    let four : 1 * m ≤ w * m = mul-le-mul_right m h in
    omega arith

-- a number that stands for w times it, and of which at most w times a and c are still to come, is as far from 0 at the end
pub far_at_end : (w x y : ℕ) (s a c t : ℤ) (m : ℕ) → 0 < w → x ≤ w → y ≤ w → pos w *ℤ s +ℤ a *ℤ pos x +ℤ c *ℤ pos y ≡ t → unsigned_abs a + unsigned_abs c + m ≤ unsigned_abs s → m ≤ unsigned_abs t
far_at_end w x y s a c t m h hx hy e big = far_by w x y (unsigned_abs s) (unsigned_abs a) (unsigned_abs c) (unsigned_abs t) m h hx hy big (size_of_three w x y s a c t e)

-- a number with a great quotient is great
pub far_quotient : (d : ℕ) (q : ℤ) (r : ℕ) (k : ℕ) → r < d → k + 1 ≤ unsigned_abs q → k * d ≤ unsigned_abs (q *ℤ pos d +ℤ pos r)
far_quotient d q r k h big =
    let own = abs_summand (q *ℤ pos d) (pos r) in
    let more : (k + 1) * d ≤ unsigned_abs q * d = mul-le-mul_right d big in
    omega (arith, own, unsigned_abs-mul q (pos d))
