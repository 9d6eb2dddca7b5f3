-- Two numbers and their negatives: sums and products are held alike, and equal numbers have equal negatives.
use Rattle.std.specs.Prelude.{◌≡◌, ℕ, Bool, true, false, cond, ◌&&◌, ◌+◌, not, IsTrue, Result, Ok, Err, refl, [], ◌∷◌}
use Rattle.std.specs.Result.{is_ok}
use Rattle.std.specs.Bool.{◌==◌}
use Rattle.std.specs.Ordering.{ordering_index}
use Rattle.std.specs.declared.cmp.Ordering.{Ordering}
use Rattle.std.specs.declared.cmp.Ordering.TheVariants.{Less, Equal, Greater}
use Rattle.std.proofs.Common.{arith, sym, ap, ◌∙◌, subst}
use Rattle.exact_field.specs.declared.op.Left.{Left}
use Rattle.exact_field.specs.declared.op.Op.{Op}
use Rattle.exact_field.specs.Field.{Answers}
use Rattle.exact_field.specs.Order.{same_ℚ, cmp_ℚ}
use Rattle.exact_field.specs.Rational.{ℚ, neg_ℚ, le_ℚ, ◌+ℚ◌, ◌*ℚ◌}
use Rattle.exact_field.specs.Ring.{⊖, ◌⊗◌, v0, v1}
use Rattle.exact_field.proofs.Inequalities.{neg-le}
use Rattle.exact_field.proofs.Integers.{same_test}
use Rattle.exact_field.proofs.Rationals.{rationals, neg-add_ℚ, neg-neg_ℚ}
use Rattle.exact_field.proofs.RingTool.{ring}

held_alike : (holds : ℚ → Bool) → ((q : ℚ) → IsTrue (holds q) → IsTrue (holds (neg_ℚ q))) → (q : ℚ) → holds (neg_ℚ q) ≡ holds q
held_alike holds law q = same_test (holds (neg_ℚ q)) (holds q) (λ h. subst (λ (p : ℚ). IsTrue (holds p)) (neg-neg_ℚ q) (law (neg_ℚ q) h)) (law q)

pub sum_alike : (holds : ℚ → Bool) → ((q : ℚ) → IsTrue (holds q) → IsTrue (holds (neg_ℚ q))) → (p q r s : ℚ) → r ≡ neg_ℚ p → s ≡ neg_ℚ q → holds (r +ℚ s) ≡ holds (p +ℚ q)
sum_alike holds law p q r s e f =
    ap (λ (x : ℚ). holds (x +ℚ s)) e ∙ ap (λ (x : ℚ). holds (neg_ℚ p +ℚ x)) f ∙ ap holds (sym (neg-add_ℚ p q)) ∙ held_alike holds law (p +ℚ q)

pub product_alike : (holds : ℚ → Bool) (p q r s : ℚ) → r ≡ neg_ℚ p → s ≡ neg_ℚ q → holds (r *ℚ s) ≡ holds (p *ℚ q)
product_alike holds p q r s e f =
    ap (λ (x : ℚ). holds (x *ℚ s)) e ∙ ap (λ (x : ℚ). holds (neg_ℚ p *ℚ x)) f ∙ ap holds (ring rationals (p ∷ q ∷ []) (⊖ v0 ⊗ ⊖ v1) (v0 ⊗ v1) refl)

and_swap : (a b : Bool) → (a && b) ≡ (b && a)
and_swap true true = refl
and_swap true false = refl
and_swap false true = refl
and_swap false false = refl

pub same_alike : (p q r s : ℚ) → r ≡ neg_ℚ p → s ≡ neg_ℚ q → not (same_ℚ r s) ≡ not (same_ℚ p q)
same_alike p q r s e f =
    ap (λ (x : ℚ). not (same_ℚ x s)) e
    ∙ ap (λ (x : ℚ). not (same_ℚ (neg_ℚ p) x)) f
    ∙ ap (λ (b : Bool). not (b && le_ℚ (neg_ℚ q) (neg_ℚ p))) (neg-le q p)
    ∙ ap (λ (b : Bool). not (le_ℚ q p && b)) (neg-le p q)
    ∙ ap not (and_swap (le_ℚ q p) (le_ℚ p q))

-- an answer is there exactly where the number is held
pub ok_is_held : {F : Type 0} (value : F → ℚ) (holds : ℚ → Bool) (operation : Op) (a b : F) (exact : ℚ) (r : Result F (Left F)) → Answers value holds operation a b exact r → is_ok r ≡ holds exact
ok_is_held value holds operation a b exact (Ok x) answer = sym answer.1
ok_is_held value holds operation a b exact (Err left) answer = sym answer.1

-- one more round, with the test passed or not
pub counted_then : (t : Bool) (k n m : ℕ) → t ≡ true → k ≡ cond t n 0 → m ≡ k + 1 → m ≡ cond t (n + 1) 0
counted_then true k n m h e f = omega arith
counted_then false k n m h e f = cc

pub counted_else : (t : Bool) (k n m : ℕ) → t ≡ false → k ≡ cond t n 0 → m ≡ k → m ≡ cond t (n + 1) 0
counted_else true k n m h e f = cc
counted_else false k n m h e f = f ∙ e

order_test : (s t : Bool) → not (ordering_index (cond s (cond t Equal Less) Greater) == 1) ≡ not (s && t)
order_test true true = refl
order_test true false = refl
order_test false t = refl

-- numbers differ exactly where the order's answer is not `Equal`
pub differ_by_order : (p q : ℚ) (o : Ordering) → o ≡ cmp_ℚ p q → not (ordering_index o == 1) ≡ not (same_ℚ p q)
differ_by_order p q o e = ap (λ (x : Ordering). not (ordering_index x == 1)) e ∙ order_test (le_ℚ p q) (le_ℚ q p)
