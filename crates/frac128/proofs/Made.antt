-- What is made of a pair, and of a number's negative.
use mir.Syntax.{w128}
use mir.Val.{to_z, of_z}
use Rattle.std.specs.Prelude.{◌≡◌, ◌≢◌, ℕ, ℤ, pos, negsuc, neg_ℤ, ◌<◌, ◌^◌, unsigned_abs, int_le, Bool, not, IsTrue, Option, Some, None, Result, refl}
use Rattle.std.specs.Option.{ok_or}
use Rattle.std.proofs.Common.{arith, sym, ap, ◌∙◌, subst}
use Rattle.std.proofs.lemmas.Bool.Decides.{nat_tests}
use Rattle.exact_field.specs.Field.{AnswersHeld}
use Rattle.exact_field.specs.Rational.{ℚ, fraction, whole, neg_ℚ, ◌/ℚ◌}
use Rattle.exact_field.proofs.Rationals.{neg-num, neg-den}
use Rattle.frac128.specs.declared.fault.FracFault.{FracFault}
use Rattle.frac128.specs.declared.fault.FracFault.TheVariants.{Wide}
use Rattle.frac128.specs.Held.{is_held}
use Rattle.frac128.specs.New.{Makes}
use Rattle.frac128.specs.Signed.{signed, differ, is_below_zero}
use Rattle.frac128.proofs.Lowest.{IsLowest, IsStored, quotient_fraction}
use Rattle.frac128.proofs.Signs.{kept}

makes_by : (n d : ℤ) (o : Option ℚ) → d ≢ pos 0 → AnswersHeld (λ (q : ℚ). q) is_held (whole n /ℚ whole d) o → Makes n d (ok_or o Wide)
makes_by n d None h answer = (h, answer)
makes_by n d (Some q) h answer = (h, answer.0, subst (λ (x : ℚ). IsTrue (is_held x)) (sym answer.0) answer.1)

pub makes : (n d : ℤ) (o : Option ℚ) (r : Result ℚ FracFault) (s : Bool) (x y : ℕ) → d ≢ pos 0 → s ≡ differ (is_below_zero n) (is_below_zero d) → x ≡ unsigned_abs n → y ≡ unsigned_abs d → AnswersHeld (λ (q : ℚ). q) is_held (fraction (signed s x) y) o → r ≡ ok_or o Wide → Makes n d r
makes n d o r s x y h es ex ey answer e =
    let exact : fraction (signed s x) y ≡ whole n /ℚ whole d =
    ap (λ (z : Bool). fraction (signed z x) y) es
    ∙ ap (λ (z : ℕ). fraction (signed (differ (is_below_zero n) (is_below_zero d)) z) y) ex
    ∙ ap (λ (z : ℕ). fraction (signed (differ (is_below_zero n) (is_below_zero d)) (unsigned_abs n)) z) ey
    ∙ sym (quotient_fraction n d h) in
    subst (λ (z : Result ℚ FracFault). Makes n d z) (sym e)
    (makes_by n d o h (subst (λ (q : ℚ). AnswersHeld (λ (x : ℚ). x) is_held q o) exact answer))

pub not_zero : (d : ℤ) → (of_z w128 d ≡ 0 → ⊥) → d ≢ pos 0
not_zero d h e = h (ap (of_z w128) e)

-- ---- a negative

negated : (n : ℤ) → signed (not (is_below_zero n)) (unsigned_abs n) ≡ neg_ℤ n
negated (pos n) = refl
negated (negsuc n) = refl

not_below : (n : ℤ) → int_le (pos 0) n ≡ not (is_below_zero n)
not_below (pos n) = grind (arith, nat_tests)
not_below (negsuc n) = refl

pub negative_lowest : (q : ℚ) (n : ℤ) (d x : ℕ) → IsStored q n d → unsigned_abs n < 2 ^ 120 → x ≡ unsigned_abs n → IsLowest (neg_ℚ q) (int_le (pos 0) (to_z w128 (of_z w128 n))) x d
negative_lowest q n d x st h ex =
    record {
      num =
          neg-num q ∙ ap neg_ℤ (sym st.num) ∙ sym (negated n)
          ∙ ap (λ (z : ℕ). signed (not (is_below_zero n)) z) (sym ex)
          ∙ ap (λ (z : Bool). signed z x) (sym (ap (int_le (pos 0)) (kept n h) ∙ not_below n));
      den = neg-den q ∙ sym st.den;
    }
