-- How many places after the point a number needs.
use Rattle.std.proofs.Common.{◌≡◌, ℕ, suc, ◌+◌, ◌-◌, ◌*◌, ◌<◌, ◌≤◌, ◌^◌, ◌%◌, ◌==◌, arith, ap, sym, ◌∙◌, true, false, None, Some}
use Rattle.std.proofs.Math.Nat.{pow-suc}
use Rattle.std.proofs.lemmas.Bool.{cond-true, cond-false, ne_eqb}
use Rattle.vlp_printer.specs.Decimal.{places_from}

one_less : (den k : ℕ) → k < 37 → places_from den k (37 - k) ≡ places_from den k (suc (37 - (k + 1)))
one_less den k h = let same : 37 - k ≡ suc (37 - (k + 1)) = omega arith in ap (places_from den k) same

pub places_found : (den k : ℕ) → k < 37 → (10 ^ k % den == 0) ≡ true → places_from den k (37 - k) ≡ Some k
places_found den k h test = one_less den k h ∙ cond-true (10 ^ k % den == 0) _ _ test

pub places_later : (den k : ℕ) → k < 37 → (10 ^ k % den == 0) ≡ false → places_from den k (37 - k) ≡ places_from den (k + 1) (37 - (k + 1))
places_later den k h test = one_less den k h ∙ cond-false (10 ^ k % den == 0) _ _ test

pub places_over : (den k : ℕ) → k ≤ 37 → 37 ≤ k → places_from den k (37 - k) ≡ None
places_over den k small over = let none_left : 37 - k ≡ 0 = omega arith in ap (places_from den k) none_left

pub power_more : (p k : ℕ) → p ≡ 10 ^ k → p * 10 ≡ 10 ^ (k + 1)
power_more p k e = let next : suc k ≡ k + 1 = omega arith in ap (λ (n : ℕ). n * 10) e ∙ sym (pow-suc 10 k) ∙ ap (λ (n : ℕ). 10 ^ n) next

-- the remainder by a denominator that is known another way
pub divides : (p q d e : ℕ) → p ≡ q → d ≡ e → p % d ≡ 0 → (q % e == 0) ≡ true
divides p q d e same_power same_den zero_rest = ap (λ (n : ℕ). n == 0) (ap (λ (n : ℕ). n % e) (sym same_power) ∙ ap (λ (n : ℕ). p % n) (sym same_den) ∙ zero_rest)

pub divides_not : (p q d e : ℕ) → p ≡ q → d ≡ e → (p % d ≡ 0 → ⊥) → (q % e == 0) ≡ false
divides_not p q d e same_power same_den some_rest = ne_eqb (q % e) 0 (λ zero_rest. some_rest (ap (λ (n : ℕ). n % d) same_power ∙ ap (λ (n : ℕ). q % n) same_den ∙ zero_rest))
