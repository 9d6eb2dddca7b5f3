-- The order of the rational numbers: a total order that sums and products of nonnegative numbers respect.
-- For a goal p ≤ q find nonnegative numbers whose sum is q - p: `le_from_difference`, with `ring rationals` for the equation.
use Rattle.std.specs.Prelude.{List, ◌≡◌, ◌≢◌, ◌⊎◌, ℕ, ℤ, pos, neg_ℤ, ◌+ℤ◌, ◌*ℤ◌, ◌*◌, refl, int_le, Bool, true, false, not, IsTrue, [], ◌∷◌}
use Rattle.std.proofs.Common.{sym, ap, ◌∙◌, subst, inl, inr}
use Rattle.exact_field.specs.Rational.{ℚ, whole, zero_ℚ, one_ℚ, ◌+ℚ◌, ◌*ℚ◌, ◌-ℚ◌, ◌/ℚ◌, neg_ℚ, inverse_ℚ, le_ℚ, lt_ℚ, ◌≤ℚ◌, ◌<ℚ◌}
use Rattle.exact_field.specs.Ring.{Poly, value, normal, num, ◌⊕◌, ◌⊗◌, ⊖, ◌⊝◌, v0, v1, v2}
use Rattle.exact_field.proofs.Integers.{zero-le-pos, le_total_ℤ, mul-one_ℤ, zero-mul_ℤ, neg-mul_ℤ, le-difference_ℤ, le_antisym_ℤ, add-nonnegative_ℤ, mul-nonnegative_ℤ, nonnegative-mul_positive, same_test}
use Rattle.exact_field.proofs.RationalLaws.{Represents, represents_parts, represents_whole, add_represents, mul_represents, neg_represents, le_represented}
use Rattle.exact_field.proofs.Rationals.{rationals, add_comm_ℚ, add-neg_ℚ, zero-mul_ℚ, mul_comm_ℚ, neg-zero_ℚ, zero_from_num, same_from_difference, same_or_not, mul-inverse_ℚ, factor_zero, one-not-zero, div-mul_ℚ}
use Rattle.exact_field.proofs.RingTool.{ring}

-- ---- signs

-- a number is at least 0 exactly where the numerator of a pair for it is
pub nonnegative_represented : (q : ℚ) (n : ℤ) (d : ℕ) → Represents q n d → le_ℚ zero_ℚ q ≡ int_le (pos 0) n
nonnegative_represented q n d r =
    le_represented zero_ℚ q (pos 0) n 1 d (represents_whole (pos 0)) r ∙ ap (λ (x : ℤ). int_le x (n *ℤ pos 1)) (zero-mul_ℤ (pos d)) ∙ ap (int_le (pos 0)) (mul-one_ℤ n)

pub nonnegative_num : (q : ℚ) → le_ℚ zero_ℚ q ≡ int_le (pos 0) q.num
nonnegative_num q = nonnegative_represented q q.num q.den (represents_parts q)

-- p is at most q exactly where q - p is at least 0
pub le-difference : (p q : ℚ) → le_ℚ p q ≡ le_ℚ zero_ℚ (q -ℚ p)
le-difference p q =
    le_represented p q p.num q.num p.den q.den (represents_parts p) (represents_parts q)
    ∙ le-difference_ℤ (p.num *ℤ pos q.den) (q.num *ℤ pos p.den)
    ∙ ap (λ (x : ℤ). int_le (pos 0) (q.num *ℤ pos p.den +ℤ x)) (sym (neg-mul_ℤ p.num (pos q.den)))
    ∙ sym (nonnegative_represented (q -ℚ p) (q.num *ℤ pos p.den +ℤ neg_ℤ p.num *ℤ pos q.den) (q.den * p.den) (add_represents q (neg_ℚ p) q.num (neg_ℤ p.num) q.den p.den (represents_parts q) (neg_represents p p.num p.den (represents_parts p))))

pub le_from_difference : (p q : ℚ) → zero_ℚ ≤ℚ q -ℚ p → p ≤ℚ q
le_from_difference p q h = le-difference p q ∙ h

pub difference_from_le : (p q : ℚ) → p ≤ℚ q → zero_ℚ ≤ℚ q -ℚ p
difference_from_le p q h = sym (le-difference p q) ∙ h

-- p is at most q, by a nonnegative number that is q - p
pub le_by : (p q r : ℚ) → q -ℚ p ≡ r → zero_ℚ ≤ℚ r → p ≤ℚ q
le_by p q r e h = le_from_difference p q (ap (le_ℚ zero_ℚ) e ∙ h)

-- p is at most q where q is p and something nonnegative
pub le_by_sum : (p q r : ℚ) → q ≡ p +ℚ r → zero_ℚ ≤ℚ r → p ≤ℚ q
le_by_sum p q r e h = le_by p q r (ap (λ (x : ℚ). x -ℚ p) e ∙ ring rationals (p ∷ r ∷ []) (v0 ⊕ v1 ⊝ v0) v1 refl) h

-- ---- sums and products of nonnegative numbers

pub add-nonnegative : (p q : ℚ) → zero_ℚ ≤ℚ p → zero_ℚ ≤ℚ q → zero_ℚ ≤ℚ p +ℚ q
add-nonnegative p q h k =
    let n : IsTrue (int_le (pos 0) p.num) = sym (nonnegative_num p) ∙ h in
    let m : IsTrue (int_le (pos 0) q.num) = sym (nonnegative_num q) ∙ k in
    nonnegative_represented (p +ℚ q) (p.num *ℤ pos q.den +ℤ q.num *ℤ pos p.den) (p.den * q.den) (add_represents p q p.num q.num p.den q.den (represents_parts p) (represents_parts q))
    ∙ add-nonnegative_ℤ (p.num *ℤ pos q.den) (q.num *ℤ pos p.den) (nonnegative-mul_positive p.num q.den q.positive ∙ n) (nonnegative-mul_positive q.num p.den p.positive ∙ m)

pub mul-nonnegative : (p q : ℚ) → zero_ℚ ≤ℚ p → zero_ℚ ≤ℚ q → zero_ℚ ≤ℚ p *ℚ q
mul-nonnegative p q h k =
    nonnegative_represented (p *ℚ q) (p.num *ℤ q.num) (p.den * q.den) (mul_represents p q p.num q.num p.den q.den (represents_parts p) (represents_parts q))
    ∙ mul-nonnegative_ℤ p.num q.num (sym (nonnegative_num p) ∙ h) (sym (nonnegative_num q) ∙ k)

-- ---- a total order

pub le_refl_ℚ : (p : ℚ) → p ≤ℚ p
le_refl_ℚ p = le_from_difference p p (ap (le_ℚ zero_ℚ) (add-neg_ℚ p) ∙ nonnegative_represented zero_ℚ (pos 0) 1 (represents_whole (pos 0)))

pub le_of_same : (p q : ℚ) → p ≡ q → p ≤ℚ q
le_of_same p q e = subst (λ (x : ℚ). p ≤ℚ x) e (le_refl_ℚ p)

pub le_trans_ℚ : (p q r : ℚ) → p ≤ℚ q → q ≤ℚ r → p ≤ℚ r
le_trans_ℚ p q r h k =
    le_by p r ((q -ℚ p) +ℚ (r -ℚ q)) (ring rationals (p ∷ q ∷ r ∷ []) (v2 ⊝ v0) ((v1 ⊝ v0) ⊕ (v2 ⊝ v1)) refl)
    (add-nonnegative (q -ℚ p) (r -ℚ q) (difference_from_le p q h) (difference_from_le q r k))

-- a number that is at least and at most 0 is 0
pub zero_between : (q : ℚ) → zero_ℚ ≤ℚ q → q ≤ℚ zero_ℚ → q ≡ zero_ℚ
zero_between q h k =
    zero_from_num q
    (sym
    (le_antisym_ℤ (pos 0) q.num (sym (nonnegative_num q) ∙ h)
    (sym (le_represented q zero_ℚ q.num (pos 0) q.den 1 (represents_parts q) (represents_whole (pos 0)) ∙ ap (λ (x : ℤ). int_le x (pos 0 *ℤ pos q.den)) (mul-one_ℤ q.num) ∙ ap (int_le q.num) (zero-mul_ℤ (pos q.den))) ∙ k)))

pub le_antisym_ℚ : (p q : ℚ) → p ≤ℚ q → q ≤ℚ p → p ≡ q
le_antisym_ℚ p q h k =
    same_from_difference p q
    (zero_between (p -ℚ q) (difference_from_le q p k)
    (le_by (p -ℚ q) zero_ℚ (q -ℚ p) (ring rationals (p ∷ q ∷ []) (num (pos 0) ⊝ (v0 ⊝ v1)) (v1 ⊝ v0) refl) (difference_from_le p q h)))

-- ---- less than: at most, and not the same

pub not_both : (b : Bool) → IsTrue b → IsTrue (not b) → ⊥
not_both true h k = cc
not_both false h k = cc

by_test : (b : Bool) → (IsTrue b) ⊎ (IsTrue (not b))
by_test true = inl refl
by_test false = inr refl

pub lt_irrefl_ℚ : (p : ℚ) → p <ℚ p → ⊥
lt_irrefl_ℚ p h = not_both (le_ℚ p p) (le_refl_ℚ p) h

-- p is at most q, or q is less than p
pub le_or_lt : (p q : ℚ) → (p ≤ℚ q) ⊎ (q <ℚ p)
le_or_lt p q = by_test (le_ℚ p q)

pub lt-not-le : (p q : ℚ) → p <ℚ q → q ≤ℚ p → ⊥
lt-not-le p q h k = not_both (le_ℚ q p) k h

lt_from_not_le_by : (p q : ℚ) → (q ≤ℚ p) ⊎ (p <ℚ q) → (q ≤ℚ p → ⊥) → p <ℚ q
lt_from_not_le_by p q (inl k) h = absurd (h k)
lt_from_not_le_by p q (inr k) h = k

pub lt_from_not_le : (p q : ℚ) → (q ≤ℚ p → ⊥) → p <ℚ q
lt_from_not_le p q h = lt_from_not_le_by p q (le_or_lt q p) h

le_total_by : (a b : ℤ) (t : Bool) → int_le a b ≡ t → (IsTrue (int_le a b)) ⊎ (IsTrue (int_le b a))
le_total_by a b true e = inl e
le_total_by a b false e = inr (le_total_ℤ a b e)

le_total_parts : (p q : ℚ) → (IsTrue (int_le (p.num *ℤ pos q.den) (q.num *ℤ pos p.den))) ⊎ (IsTrue (int_le (q.num *ℤ pos p.den) (p.num *ℤ pos q.den))) → (p ≤ℚ q) ⊎ (q ≤ℚ p)
le_total_parts p q (inl h) = inl (le_represented p q p.num q.num p.den q.den (represents_parts p) (represents_parts q) ∙ h)
le_total_parts p q (inr h) = inr (le_represented q p q.num p.num q.den p.den (represents_parts q) (represents_parts p) ∙ h)

-- of two numbers one is at most the other
pub le_total_ℚ : (p q : ℚ) → (p ≤ℚ q) ⊎ (q ≤ℚ p)
le_total_ℚ p q =
    le_total_parts p q (le_total_by (p.num *ℤ pos q.den) (q.num *ℤ pos p.den) (int_le (p.num *ℤ pos q.den) (q.num *ℤ pos p.den)) refl)

lt-le_by : (p q : ℚ) → (p ≤ℚ q) ⊎ (q ≤ℚ p) → p <ℚ q → p ≤ℚ q
lt-le_by p q (inl h) k = h
lt-le_by p q (inr h) k = absurd (lt-not-le p q k h)

pub lt-le_ℚ : (p q : ℚ) → p <ℚ q → p ≤ℚ q
lt-le_ℚ p q h = lt-le_by p q (le_total_ℚ p q) h

pub lt-not-same : (p q : ℚ) → p <ℚ q → p ≢ q
lt-not-same p q h e = lt-not-le p q h (le_of_same q p (sym e))

pub lt_from_le : (p q : ℚ) → p ≤ℚ q → p ≢ q → p <ℚ q
lt_from_le p q h n = lt_from_not_le p q (λ k. n (le_antisym_ℚ p q h k))

le_cases_by : (p q : ℚ) → p ≤ℚ q → (p ≡ q) ⊎ (p ≢ q) → (p <ℚ q) ⊎ (p ≡ q)
le_cases_by p q h (inl e) = inr e
le_cases_by p q h (inr n) = inl (lt_from_le p q h n)

pub le_cases : (p q : ℚ) → p ≤ℚ q → (p <ℚ q) ⊎ (p ≡ q)
le_cases p q h = le_cases_by p q h (same_or_not p q)

three_cases_by : (p q : ℚ) → (p <ℚ q) ⊎ (p ≡ q) → (p <ℚ q) ⊎ ((p ≡ q) ⊎ (q <ℚ p))
three_cases_by p q (inl h) = inl h
three_cases_by p q (inr e) = inr (inl e)

three_cases_from : (p q : ℚ) → (p ≤ℚ q) ⊎ (q <ℚ p) → (p <ℚ q) ⊎ ((p ≡ q) ⊎ (q <ℚ p))
three_cases_from p q (inl h) = three_cases_by p q (le_cases p q h)
three_cases_from p q (inr h) = inr (inr h)

-- less, the same or greater
pub three_cases : (p q : ℚ) → (p <ℚ q) ⊎ ((p ≡ q) ⊎ (q <ℚ p))
three_cases p q = three_cases_from p q (le_or_lt p q)

pub lt-le_trans : (p q r : ℚ) → p <ℚ q → q ≤ℚ r → p <ℚ r
lt-le_trans p q r h k = lt_from_not_le p r (λ l. lt-not-le p q h (le_trans_ℚ q r p k l))

pub le-lt_trans : (p q r : ℚ) → p ≤ℚ q → q <ℚ r → p <ℚ r
le-lt_trans p q r h k = lt_from_not_le p r (λ l. lt-not-le q r k (le_trans_ℚ r p q l h))

pub lt_trans_ℚ : (p q r : ℚ) → p <ℚ q → q <ℚ r → p <ℚ r
lt_trans_ℚ p q r h k = lt-le_trans p q r h (lt-le_ℚ q r k)

-- p is less than q exactly where q - p is positive
pub lt-difference : (p q : ℚ) → lt_ℚ p q ≡ lt_ℚ zero_ℚ (q -ℚ p)
lt-difference p q =
    ap not
    (le-difference q p
    ∙ ap (le_ℚ zero_ℚ) (ring rationals (p ∷ q ∷ []) (v0 ⊝ v1) (num (pos 0) ⊝ (v1 ⊝ v0)) refl)
    ∙ sym (le-difference (q -ℚ p) zero_ℚ))

pub lt_from_difference : (p q : ℚ) → zero_ℚ <ℚ q -ℚ p → p <ℚ q
lt_from_difference p q h = lt-difference p q ∙ h

pub difference_from_lt : (p q : ℚ) → p <ℚ q → zero_ℚ <ℚ q -ℚ p
difference_from_lt p q h = sym (lt-difference p q) ∙ h

-- ---- positive numbers

pub positive-not-zero : (p : ℚ) → zero_ℚ <ℚ p → p ≢ zero_ℚ
positive-not-zero p h e = lt-not-same zero_ℚ p h (sym e)

pub positive_from_nonnegative : (p : ℚ) → zero_ℚ ≤ℚ p → p ≢ zero_ℚ → zero_ℚ <ℚ p
positive_from_nonnegative p h n = lt_from_le zero_ℚ p h (λ e. n (sym e))

pub mul-positive : (p q : ℚ) → zero_ℚ <ℚ p → zero_ℚ <ℚ q → zero_ℚ <ℚ p *ℚ q
mul-positive p q h k =
    positive_from_nonnegative (p *ℚ q) (mul-nonnegative p q (lt-le_ℚ zero_ℚ p h) (lt-le_ℚ zero_ℚ q k))
    (λ e. positive-not-zero p h (factor_zero p q e (positive-not-zero q k)))

-- a sum of nonnegative numbers is 0 only where each is
pub left_zero_from_sum : (p q : ℚ) → zero_ℚ ≤ℚ p → zero_ℚ ≤ℚ q → p +ℚ q ≡ zero_ℚ → p ≡ zero_ℚ
left_zero_from_sum p q h k e =
    zero_between p h
    (le_by p zero_ℚ q (ap (λ (x : ℚ). x -ℚ p) (sym e) ∙ ring rationals (p ∷ q ∷ []) (v0 ⊕ v1 ⊝ v0) v1 refl) k)

pub right_zero_from_sum : (p q : ℚ) → zero_ℚ ≤ℚ p → zero_ℚ ≤ℚ q → p +ℚ q ≡ zero_ℚ → q ≡ zero_ℚ
right_zero_from_sum p q h k e = left_zero_from_sum q p k h (add_comm_ℚ q p ∙ e)

pub add-positive_left : (p q : ℚ) → zero_ℚ <ℚ p → zero_ℚ ≤ℚ q → zero_ℚ <ℚ p +ℚ q
add-positive_left p q h k =
    positive_from_nonnegative (p +ℚ q) (add-nonnegative p q (lt-le_ℚ zero_ℚ p h) k)
    (λ e. positive-not-zero p h (left_zero_from_sum p q (lt-le_ℚ zero_ℚ p h) k e))

pub add-positive_right : (p q : ℚ) → zero_ℚ ≤ℚ p → zero_ℚ <ℚ q → zero_ℚ <ℚ p +ℚ q
add-positive_right p q h k = subst (λ (x : ℚ). zero_ℚ <ℚ x) (add_comm_ℚ q p) (add-positive_left q p k h)

pub zero-le-whole : (n : ℕ) → zero_ℚ ≤ℚ whole (pos n)
zero-le-whole n = nonnegative_represented (whole (pos n)) (pos n) 1 (represents_whole (pos n)) ∙ zero-le-pos n

pub zero-lt-one : zero_ℚ <ℚ one_ℚ
zero-lt-one = positive_from_nonnegative one_ℚ (zero-le-whole 1) one-not-zero

-- ---- order and sums

pub neg-le : (p q : ℚ) → le_ℚ (neg_ℚ q) (neg_ℚ p) ≡ le_ℚ p q
neg-le p q = le-difference (neg_ℚ q) (neg_ℚ p) ∙ ap (le_ℚ zero_ℚ) (ring rationals (p ∷ q ∷ []) (⊖ v0 ⊝ ⊖ v1) (v1 ⊝ v0) refl) ∙ sym (le-difference p q)

pub neg-nonnegative : (p : ℚ) → p ≤ℚ zero_ℚ → zero_ℚ ≤ℚ neg_ℚ p
neg-nonnegative p h = ap (λ (x : ℚ). le_ℚ x (neg_ℚ p)) (sym neg-zero_ℚ) ∙ neg-le p zero_ℚ ∙ h

pub neg-nonpositive : (p : ℚ) → zero_ℚ ≤ℚ p → neg_ℚ p ≤ℚ zero_ℚ
neg-nonpositive p h = ap (le_ℚ (neg_ℚ p)) (sym neg-zero_ℚ) ∙ neg-le zero_ℚ p ∙ h

pub neg-positive : (p : ℚ) → p <ℚ zero_ℚ → zero_ℚ <ℚ neg_ℚ p
neg-positive p h = ap not (ap (le_ℚ (neg_ℚ p)) (sym neg-zero_ℚ) ∙ neg-le zero_ℚ p) ∙ h

-- the same added on both sides does not change an order
pub add_right-le : (p q r : ℚ) → le_ℚ (p +ℚ r) (q +ℚ r) ≡ le_ℚ p q
add_right-le p q r =
    le-difference (p +ℚ r) (q +ℚ r) ∙ ap (le_ℚ zero_ℚ) (ring rationals (p ∷ q ∷ r ∷ []) ((v1 ⊕ v2) ⊝ (v0 ⊕ v2)) (v1 ⊝ v0) refl) ∙ sym (le-difference p q)

pub add_left-le : (p q r : ℚ) → le_ℚ (r +ℚ p) (r +ℚ q) ≡ le_ℚ p q
add_left-le p q r = ap (λ (x : ℚ). le_ℚ x (r +ℚ q)) (add_comm_ℚ r p) ∙ ap (le_ℚ (p +ℚ r)) (add_comm_ℚ r q) ∙ add_right-le p q r

pub add-le-add_ℚ : (p q r s : ℚ) → p ≤ℚ q → r ≤ℚ s → p +ℚ r ≤ℚ q +ℚ s
add-le-add_ℚ p q r s h k = le_trans_ℚ (p +ℚ r) (q +ℚ r) (q +ℚ s) (add_right-le p q r ∙ h) (add_left-le r s q ∙ k)

pub add-lt-add_left : (p q r s : ℚ) → p <ℚ q → r ≤ℚ s → p +ℚ r <ℚ q +ℚ s
add-lt-add_left p q r s h k = lt-le_trans (p +ℚ r) (q +ℚ r) (q +ℚ s) (ap not (add_right-le q p r) ∙ h) (add_left-le r s q ∙ k)

pub add-lt-add_right : (p q r s : ℚ) → p ≤ℚ q → r <ℚ s → p +ℚ r <ℚ q +ℚ s
add-lt-add_right p q r s h k = le-lt_trans (p +ℚ r) (q +ℚ r) (q +ℚ s) (add_right-le p q r ∙ h) (ap not (add_left-le s r q) ∙ k)

-- ---- order and products

pub mul-le-mul_nonnegative : (p q r : ℚ) → zero_ℚ ≤ℚ r → p ≤ℚ q → p *ℚ r ≤ℚ q *ℚ r
mul-le-mul_nonnegative p q r h k =
    le_by (p *ℚ r) (q *ℚ r) ((q -ℚ p) *ℚ r) (ring rationals (p ∷ q ∷ r ∷ []) (v1 ⊗ v2 ⊝ v0 ⊗ v2) ((v1 ⊝ v0) ⊗ v2) refl)
    (mul-nonnegative (q -ℚ p) r (difference_from_le p q k) h)

pub mul-lt-mul_positive : (p q r : ℚ) → zero_ℚ <ℚ r → p <ℚ q → p *ℚ r <ℚ q *ℚ r
mul-lt-mul_positive p q r h k =
    lt_from_difference (p *ℚ r) (q *ℚ r)
    (subst (λ (x : ℚ). zero_ℚ <ℚ x) (ring rationals (p ∷ q ∷ r ∷ []) ((v1 ⊝ v0) ⊗ v2) (v1 ⊗ v2 ⊝ v0 ⊗ v2) refl)
    (mul-positive (q -ℚ p) r (difference_from_lt p q k) h))

le_from_products_by : (p q r : ℚ) → (p ≤ℚ q) ⊎ (q <ℚ p) → zero_ℚ <ℚ r → p *ℚ r ≤ℚ q *ℚ r → p ≤ℚ q
le_from_products_by p q r (inl l) h k = l
le_from_products_by p q r (inr l) h k = absurd (lt-not-le (q *ℚ r) (p *ℚ r) (mul-lt-mul_positive q p r h l) k)

-- a positive factor on both sides does not change an order
pub mul_right-le : (p q r : ℚ) → zero_ℚ <ℚ r → le_ℚ (p *ℚ r) (q *ℚ r) ≡ le_ℚ p q
mul_right-le p q r h =
    same_test (le_ℚ (p *ℚ r) (q *ℚ r)) (le_ℚ p q) (λ k. le_from_products_by p q r (le_or_lt p q) h k)
    (λ k. mul-le-mul_nonnegative p q r (lt-le_ℚ zero_ℚ r h) k)

pub mul-nonpositive : (p q : ℚ) → p ≤ℚ zero_ℚ → zero_ℚ ≤ℚ q → p *ℚ q ≤ℚ zero_ℚ
mul-nonpositive p q h k = subst (λ (x : ℚ). p *ℚ q ≤ℚ x) (zero-mul_ℚ q) (mul-le-mul_nonnegative p zero_ℚ q k h)

square-nonnegative_by : (p : ℚ) → (zero_ℚ ≤ℚ p) ⊎ (p ≤ℚ zero_ℚ) → zero_ℚ ≤ℚ p *ℚ p
square-nonnegative_by p (inl h) = mul-nonnegative p p h h
square-nonnegative_by p (inr h) =
    subst (λ (x : ℚ). zero_ℚ ≤ℚ x) (ring rationals (p ∷ []) (⊖ v0 ⊗ ⊖ v0) (v0 ⊗ v0) refl)
    (mul-nonnegative (neg_ℚ p) (neg_ℚ p) (neg-nonnegative p h) (neg-nonnegative p h))

pub square-nonnegative : (p : ℚ) → zero_ℚ ≤ℚ p *ℚ p
square-nonnegative p = square-nonnegative_by p (le_total_ℚ zero_ℚ p)

inverse-positive_by : (q : ℚ) → (inverse_ℚ q ≤ℚ zero_ℚ) ⊎ (zero_ℚ <ℚ inverse_ℚ q) → zero_ℚ <ℚ q → zero_ℚ <ℚ inverse_ℚ q
inverse-positive_by q (inr h) k = h
inverse-positive_by q (inl h) k =
    absurd
    (lt-not-le zero_ℚ one_ℚ zero-lt-one
    (subst (λ (x : ℚ). x ≤ℚ zero_ℚ) (mul_comm_ℚ (inverse_ℚ q) q ∙ mul-inverse_ℚ q (positive-not-zero q k))
    (mul-nonpositive (inverse_ℚ q) q h (lt-le_ℚ zero_ℚ q k))))

-- a positive number has a positive inverse
pub inverse-positive : (q : ℚ) → zero_ℚ <ℚ q → zero_ℚ <ℚ inverse_ℚ q
inverse-positive q h = inverse-positive_by q (le_or_lt (inverse_ℚ q) zero_ℚ) h

pub div-positive : (p q : ℚ) → zero_ℚ <ℚ p → zero_ℚ <ℚ q → zero_ℚ <ℚ p /ℚ q
div-positive p q h k = mul-positive p (inverse_ℚ q) h (inverse-positive q k)

pub div-nonnegative : (p q : ℚ) → zero_ℚ ≤ℚ p → zero_ℚ <ℚ q → zero_ℚ ≤ℚ p /ℚ q
div-nonnegative p q h k = mul-nonnegative p (inverse_ℚ q) h (lt-le_ℚ zero_ℚ (inverse_ℚ q) (inverse-positive q k))

-- at most a quotient: the product is at most the dividend
pub le-div : (p q r : ℚ) → zero_ℚ <ℚ r → le_ℚ p (q /ℚ r) ≡ le_ℚ (p *ℚ r) q
le-div p q r h = sym (mul_right-le p (q /ℚ r) r h) ∙ ap (le_ℚ (p *ℚ r)) (div-mul_ℚ q r (positive-not-zero r h))

pub div-le : (p q r : ℚ) → zero_ℚ <ℚ r → le_ℚ (q /ℚ r) p ≡ le_ℚ q (p *ℚ r)
div-le p q r h = sym (mul_right-le (q /ℚ r) p r h) ∙ ap (λ (x : ℚ). le_ℚ x (p *ℚ r)) (div-mul_ℚ q r (positive-not-zero r h))

-- ---- the ring tool on inequalities

-- p is at most q, where q - p and s are one polynomial and s has a nonnegative value
pub le_ring : (xs : List ℚ) (p q s : Poly) → zero_ℚ ≤ℚ value rationals xs s → normal (q ⊝ p) ≡ normal s → value rationals xs p ≤ℚ value rationals xs q
le_ring xs p q s h e = le_by (value rationals xs p) (value rationals xs q) (value rationals xs s) (ring rationals xs (q ⊝ p) s e) h

-- p is less than q, where q - p and s are one polynomial and s has a positive value
pub lt_ring : (xs : List ℚ) (p q s : Poly) → zero_ℚ <ℚ value rationals xs s → normal (q ⊝ p) ≡ normal s → value rationals xs p <ℚ value rationals xs q
lt_ring xs p q s h e =
    lt_from_difference (value rationals xs p) (value rationals xs q) (subst (λ (x : ℚ). zero_ℚ <ℚ x) (sym (ring rationals xs (q ⊝ p) s e)) h)
