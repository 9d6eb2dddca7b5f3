-- Sums of fractions with one denominator.
use Rattle.std.specs.Prelude.{◌≡◌, ℕ, ℤ, pos, ◌+ℤ◌, ◌*ℤ◌, ◌*◌, ◌<◌, unsigned_abs, Bool, int_lt, refl, [], ◌∷◌}
use Rattle.std.proofs.Common.{sym, ap, ◌∙◌, subst}
use Rattle.exact_field.specs.Rational.{ℚ, fraction, ◌+ℚ◌}
use Rattle.exact_field.specs.Ring.{◌⊕◌, ◌⊗◌, v0, v1, v2, v3}
use Rattle.exact_field.proofs.RingTool.{ring, integers}
use Rattle.exact_field.proofs.RationalLaws.{Represents, fraction_represents, same_represented, add_represents}
use Rattle.frac128.specs.Signed.{signed, is_below_zero}
use Rattle.frac128.proofs.Lowest.{IsStored, signed_is}
use Rattle.frac128.proofs.Signs.{below_zero}

stored_represents : (p : ℚ) (n : ℤ) (b : ℕ) → IsStored p n b → Represents p n b
stored_represents p n b st =
    record {
      positive = subst (λ (z : ℕ). 0 < z) (sym st.den) p.positive;
      cross = ap (λ (z : ℤ). z *ℤ pos b) (sym st.num) ∙ ap (λ (z : ℕ). n *ℤ pos z) st.den;
    }

same_den : (p q : ℚ) (n m : ℤ) (b d : ℕ) → IsStored p n b → IsStored q m d → b ≡ d → fraction (n +ℤ m) b ≡ p +ℚ q
same_den p q n m b d sp sq e =
    let left = stored_represents p n b sp in
    let right = stored_represents q m d sq in
    same_represented (fraction (n +ℤ m) b) (p +ℚ q) (n +ℤ m) (n *ℤ pos d +ℤ m *ℤ pos b) b (b * d)
    (fraction_represents (n +ℤ m) b left.positive)
    (add_represents p q n m b d left right)
    (ring integers (n ∷ m ∷ pos b ∷ pos d ∷ []) ((v0 ⊕ v1) ⊗ (v2 ⊗ v3)) ((v0 ⊗ v3 ⊕ v1 ⊗ v3) ⊗ v2) refl
    ∙ ap (λ (z : ℕ). (n *ℤ pos d +ℤ m *ℤ pos z) *ℤ pos b) (sym e))

-- the sum t of the numerators, by sign and magnitude, over the denominator
pub sum_over : (p q : ℚ) (n m t : ℤ) (b d e x : ℕ) (s : Bool) → IsStored p n b → IsStored q m d → b ≡ d → e ≡ b → t ≡ n +ℤ m → s ≡ int_lt t (pos 0) → x ≡ unsigned_abs t → fraction (signed s x) e ≡ p +ℚ q
sum_over p q n m t b d e x s sp sq same ee et es ex =
    ap (λ (z : ℕ). fraction (signed s x) z) ee
    ∙ ap (λ (z : Bool). fraction (signed z x) b) (es ∙ below_zero t)
    ∙ ap (λ (z : ℕ). fraction (signed (is_below_zero t) z) b) ex
    ∙ ap (λ (z : ℤ). fraction z b) (signed_is t ∙ et)
    ∙ same_den p q n m b d sp sq same
