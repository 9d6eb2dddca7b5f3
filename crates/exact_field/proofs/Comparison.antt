-- What the answers of a comparison of rational numbers say, and that they keep the laws of `Eq` and `Ord`.
use Rattle.std.specs.Int.{int_signum}
use Rattle.std.specs.Prelude.{int_le, zero, suc, ℤ, pos, negsuc, ◌≡◌, ◌≢◌, ◌⊎◌, ◌↔◌, Bool, true, false, not, cond, ◌&&◌, IsTrue, refl}
use Rattle.std.specs.Cmp.{IsEquivalence, IsPartialEquivalence, IsPartialOrder, IsTotalOrder, partial_equiv_from_equiv, po}
use Rattle.std.specs.Ordering.{is_eq, ordering_reverse, as_partial_cmp}
use Rattle.std.specs.declared.cmp.Ordering.{Ordering}
use Rattle.std.specs.declared.cmp.Ordering.TheVariants.{Less, Equal, Greater}
use Rattle.std.proofs.Common.{arith, sym, ap, ◌∙◌, inl, inr}
use Rattle.exact_field.specs.Rational.{zero_ℚ, ℚ, le_ℚ, ◌<ℚ◌}
use Rattle.exact_field.specs.Order.{same_ℚ, cmp_ℚ, sign_ℚ}
use Rattle.exact_field.proofs.Inequalities.{nonnegative_num, lt-not-same, le_antisym_ℚ, le_of_same, lt-le_ℚ, lt_trans_ℚ, three_cases}
use Rattle.exact_field.proofs.Integers.{zero-le-pos}
use Rattle.exact_field.proofs.Rationals.{zero_from_num, zero-num}

both_parts : (s t : Bool) → IsTrue (s && t) → (IsTrue s) × (IsTrue t)
both_parts true true h = (refl, refl)
both_parts true false h = cc
both_parts false t h = cc

both_hold : (s t : Bool) → IsTrue s → IsTrue t → IsTrue (s && t)
both_hold true true h k = refl
both_hold true false h k = cc
both_hold false t h k = cc

-- the test passes exactly where the two are one number
pub same_ℚ-is : (p q : ℚ) → IsTrue (same_ℚ p q) ↔ (p ≡ q)
same_ℚ-is p q =
    (λ h. let parts = both_parts (le_ℚ p q) (le_ℚ q p) h in le_antisym_ℚ p q parts.0 parts.1, λ e. both_hold (le_ℚ p q) (le_ℚ q p) (le_of_same p q e) (le_of_same q p (sym e)))

-- ---- the three answers

not_true : (b : Bool) → IsTrue (not b) → b ≡ false
not_true true h = cc
not_true false h = refl

choice : (b c : Bool) (s t : Bool) → b ≡ s → c ≡ t → cond b (cond c Equal Less) Greater ≡ cond s (cond t Equal Less) Greater
choice b c s t e f = cc

pub cmp_ℚ-equal : (p q : ℚ) → p ≡ q → cmp_ℚ p q ≡ Equal
cmp_ℚ-equal p q e = choice (le_ℚ p q) (le_ℚ q p) true true (le_of_same p q e) (le_of_same q p (sym e))

pub cmp_ℚ-less : (p q : ℚ) → p <ℚ q → cmp_ℚ p q ≡ Less
cmp_ℚ-less p q h = choice (le_ℚ p q) (le_ℚ q p) true false (lt-le_ℚ p q h) (not_true (le_ℚ q p) h)

pub cmp_ℚ-greater : (p q : ℚ) → q <ℚ p → cmp_ℚ p q ≡ Greater
cmp_ℚ-greater p q h = choice (le_ℚ p q) (le_ℚ q p) false true (not_true (le_ℚ p q) h) (lt-le_ℚ q p h)

equal_cmp_by : (p q : ℚ) → (p <ℚ q) ⊎ ((p ≡ q) ⊎ (q <ℚ p)) → cmp_ℚ p q ≡ Equal → p ≡ q
equal_cmp_by p q (inl h) e = let k = cmp_ℚ-less p q h in cc
equal_cmp_by p q (inr (inl h)) e = h
equal_cmp_by p q (inr (inr h)) e = let k = cmp_ℚ-greater p q h in cc

pub equal-cmp_ℚ : (p q : ℚ) → cmp_ℚ p q ≡ Equal → p ≡ q
equal-cmp_ℚ p q e = equal_cmp_by p q (three_cases p q) e

less_cmp_by : (p q : ℚ) → (p <ℚ q) ⊎ ((p ≡ q) ⊎ (q <ℚ p)) → cmp_ℚ p q ≡ Less → p <ℚ q
less_cmp_by p q (inl h) e = h
less_cmp_by p q (inr (inl h)) e = let k = cmp_ℚ-equal p q h in cc
less_cmp_by p q (inr (inr h)) e = let k = cmp_ℚ-greater p q h in cc

pub less-cmp_ℚ : (p q : ℚ) → cmp_ℚ p q ≡ Less → p <ℚ q
less-cmp_ℚ p q e = less_cmp_by p q (three_cases p q) e

greater_cmp_by : (p q : ℚ) → (p <ℚ q) ⊎ ((p ≡ q) ⊎ (q <ℚ p)) → cmp_ℚ p q ≡ Greater → q <ℚ p
greater_cmp_by p q (inl h) e = let k = cmp_ℚ-less p q h in cc
greater_cmp_by p q (inr (inl h)) e = let k = cmp_ℚ-equal p q h in cc
greater_cmp_by p q (inr (inr h)) e = h

pub greater-cmp_ℚ : (p q : ℚ) → cmp_ℚ p q ≡ Greater → q <ℚ p
greater-cmp_ℚ p q e = greater_cmp_by p q (three_cases p q) e

-- ---- the laws of `Eq` and `Ord`

turned_by : (p q : ℚ) → (p <ℚ q) ⊎ ((p ≡ q) ⊎ (q <ℚ p)) → cmp_ℚ p q ≡ ordering_reverse (cmp_ℚ q p)
turned_by p q (inl h) = cmp_ℚ-less p q h ∙ ap ordering_reverse (sym (cmp_ℚ-greater q p h))
turned_by p q (inr (inl h)) = cmp_ℚ-equal p q h ∙ ap ordering_reverse (sym (cmp_ℚ-equal q p (sym h)))
turned_by p q (inr (inr h)) = cmp_ℚ-greater p q h ∙ ap ordering_reverse (sym (cmp_ℚ-less q p h))

pub cmp_ℚ-total : IsTotalOrder cmp_ℚ
cmp_ℚ-total =
    record {
      antisymm = λ p q. turned_by p q (three_cases p q);
      trans = λ p q r h k. cmp_ℚ-less p r (lt_trans_ℚ p q r (less-cmp_ℚ p q h) (less-cmp_ℚ q r k));
      congr = λ p q r h. ap (λ x. cmp_ℚ x r) (equal-cmp_ℚ p q h);
    }

answer_same : (b c : Bool) → (b && c) ≡ is_eq (cond b (cond c Equal Less) Greater)
answer_same true true = refl
answer_same true false = refl
answer_same false c = refl

and_swap : (b c : Bool) → (b && c) ≡ (c && b)
and_swap true true = refl
and_swap true false = refl
and_swap false true = refl
and_swap false false = refl

pub same_ℚ-matches_cmp : (p q : ℚ) → same_ℚ p q ≡ is_eq (cmp_ℚ p q)
same_ℚ-matches_cmp p q = answer_same (le_ℚ p q) (le_ℚ q p)

pub same_ℚ-equivalence : IsEquivalence same_ℚ
same_ℚ-equivalence =
    record {
      refl = λ p. (same_ℚ-is p p).1 refl;
      symm = λ p q. and_swap (le_ℚ p q) (le_ℚ q p);
      congr = λ p q r h. ap (λ x. same_ℚ x r) ((same_ℚ-is p q).0 h);
    }

pub same_ℚ-partial_equivalence : IsPartialEquivalence same_ℚ
same_ℚ-partial_equivalence = partial_equiv_from_equiv same_ℚ-equivalence

pub cmp_ℚ-partial_order : IsPartialOrder same_ℚ (as_partial_cmp cmp_ℚ)
cmp_ℚ-partial_order = po cmp_ℚ-total same_ℚ-matches_cmp

-- ---- the sign

positive_signum : (n : ℤ) → IsTrue (int_le (pos 0) n) → n ≢ pos 0 → int_signum n ≡ pos 1
positive_signum (pos zero) h k = absurd (k refl)
positive_signum (pos (suc n)) h k = ap pos (omega arith)
positive_signum (negsuc n) h k = cc

pub sign-positive : (q : ℚ) → zero_ℚ <ℚ q → sign_ℚ q ≡ pos 1
sign-positive q h =
    positive_signum q.num (sym (nonnegative_num q) ∙ lt-le_ℚ zero_ℚ q h) (λ e. lt-not-same zero_ℚ q h (sym (zero_from_num q e)))

pub sign-zero : (q : ℚ) → q ≡ zero_ℚ → sign_ℚ q ≡ pos 0
sign-zero q e = ap (λ (x : ℚ). int_signum x.num) e ∙ ap int_signum zero-num

negative_signum : (n : ℤ) → int_le (pos 0) n ≡ false → int_signum n ≡ negsuc 0
negative_signum (pos n) h = let t : IsTrue (int_le (pos 0) (pos n)) = zero-le-pos n in cc
negative_signum (negsuc n) h = refl

pub sign-negative : (q : ℚ) → q <ℚ zero_ℚ → sign_ℚ q ≡ negsuc 0
sign-negative q h = negative_signum q.num (sym (nonnegative_num q) ∙ not_true (le_ℚ zero_ℚ q) h)

positive_sign_by : (q : ℚ) → (zero_ℚ <ℚ q) ⊎ ((zero_ℚ ≡ q) ⊎ (q <ℚ zero_ℚ)) → sign_ℚ q ≡ pos 1 → zero_ℚ <ℚ q
positive_sign_by q (inl h) e = h
positive_sign_by q (inr (inl h)) e = let k : pos 1 ≡ pos 0 = sym e ∙ sign-zero q (sym h) in cc
positive_sign_by q (inr (inr h)) e = let k = sign-negative q h in cc

pub positive-sign : (q : ℚ) → sign_ℚ q ≡ pos 1 → zero_ℚ <ℚ q
positive-sign q e = positive_sign_by q (three_cases zero_ℚ q) e

zero_sign_by : (q : ℚ) → (zero_ℚ <ℚ q) ⊎ ((zero_ℚ ≡ q) ⊎ (q <ℚ zero_ℚ)) → sign_ℚ q ≡ pos 0 → q ≡ zero_ℚ
zero_sign_by q (inl h) e = let k : pos 1 ≡ pos 0 = sym (sign-positive q h) ∙ e in cc
zero_sign_by q (inr (inl h)) e = sym h
zero_sign_by q (inr (inr h)) e = let k = sign-negative q h in cc

pub zero-sign : (q : ℚ) → sign_ℚ q ≡ pos 0 → q ≡ zero_ℚ
zero-sign q e = zero_sign_by q (three_cases zero_ℚ q) e

negative_sign_by : (q : ℚ) → (zero_ℚ <ℚ q) ⊎ ((zero_ℚ ≡ q) ⊎ (q <ℚ zero_ℚ)) → sign_ℚ q ≡ negsuc 0 → q <ℚ zero_ℚ
negative_sign_by q (inl h) e = let k = sign-positive q h in cc
negative_sign_by q (inr (inl h)) e = let k = sign-zero q (sym h) in cc
negative_sign_by q (inr (inr h)) e = h

pub negative-sign : (q : ℚ) → sign_ℚ q ≡ negsuc 0 → q <ℚ zero_ℚ
negative-sign q e = negative_sign_by q (three_cases zero_ℚ q) e

-- ---- what the answers of a field's comparisons say of the values

module _ {F : Type 0} (value : F → ℚ) (eq : F → F → Bool) (same : (x y : F) → eq x y ≡ same_ℚ (value x) (value y)) where
  pub same_value_from_eq : (x y : F) (b : Bool) → b ≡ eq x y → b ≡ true → value x ≡ value y
  same_value_from_eq x y b e h = (same_ℚ-is (value x) (value y)).0 (sym (same x y) ∙ sym e ∙ h)

  pub other_value_from_eq : (x y : F) (b : Bool) → b ≡ eq x y → b ≡ false → value x ≢ value y
  other_value_from_eq x y b e h k = let t : IsTrue (same_ℚ (value x) (value y)) = (same_ℚ-is (value x) (value y)).1 k in let f : same_ℚ (value x) (value y) ≡ false = sym (same x y) ∙ sym e ∙ h in cc

module _ {F : Type 0} (value : F → ℚ) (cmp : F → F → Ordering) (ordered : (x y : F) → cmp x y ≡ cmp_ℚ (value x) (value y)) where
  pub lt_from_cmp : (x y : F) (o : Ordering) → o ≡ cmp x y → o ≡ Less → value x <ℚ value y
  lt_from_cmp x y o e h = less-cmp_ℚ (value x) (value y) (sym (ordered x y) ∙ sym e ∙ h)

  pub same_from_cmp : (x y : F) (o : Ordering) → o ≡ cmp x y → o ≡ Equal → value x ≡ value y
  same_from_cmp x y o e h = equal-cmp_ℚ (value x) (value y) (sym (ordered x y) ∙ sym e ∙ h)

  pub gt_from_cmp : (x y : F) (o : Ordering) → o ≡ cmp x y → o ≡ Greater → value y <ℚ value x
  gt_from_cmp x y o e h = greater-cmp_ℚ (value x) (value y) (sym (ordered x y) ∙ sym e ∙ h)
