-- Fractions compared and tested for equality by their parts.
use mir.Syntax.{Width, w128}
use mir.Val.{to_z, of_z}
use Rattle.std.specs.Prelude.{◌≡◌, ◌≢◌, ℕ, ℤ, pos, negsuc, neg_ℤ, zero, suc, ◌*◌, ◌<◌, ◌^◌, ◌*ℤ◌, unsigned_abs, int_le, int_lt, nat_le, Bool, true, false, cond, not, ◌==◌, IsTrue, refl, [], ◌∷◌}
use Rattle.std.specs.Ordering.{nat_cmp, int_cmp}
use Rattle.std.specs.declared.cmp.Ordering.TheVariants.{Less, Equal, Greater}
use Rattle.std.proofs.Common.{arith, sym, ap, ◌∙◌, subst}
use Rattle.std.proofs.lemmas.Bool.Decides.{nat_tests}
use Rattle.std.proofs.lemmas.Int.{ints}
use Rattle.exact_field.specs.Order.{cmp_ℚ, same_ℚ}
use Rattle.exact_field.specs.Rational.{ℚ, same_parts, zero_ℚ, le_ℚ, ◌<ℚ◌, ◌≤ℚ◌}
use Rattle.exact_field.specs.Ring.{◌⊗◌, ⊖, v0, v1}
use Rattle.exact_field.proofs.Comparison.{same_ℚ-is, cmp_ℚ-less, cmp_ℚ-greater}
use Rattle.exact_field.proofs.Inequalities.{nonnegative_num, lt-le_trans}
use Rattle.exact_field.proofs.Integers.{le-mul_positive, same_test}
use Rattle.exact_field.proofs.RingTool.{ring, integers}
use Rattle.frac128.specs.Signed.{is_below_zero}
use Rattle.frac128.proofs.Lowest.{IsStored}
use Rattle.frac128.proofs.Signs.{below_zero, kept}

crossed : (p q : ℚ) (n m : ℤ) (b d : ℕ) → IsStored p n b → IsStored q m d → le_ℚ p q ≡ int_le (n *ℤ pos d) (m *ℤ pos b)
unfolding le_ℚ
crossed p q n m b d sp sq =
    ap (λ (z : ℤ). int_le (z *ℤ pos q.den) (q.num *ℤ pos p.den)) (sym sp.num)
    ∙ ap (λ (z : ℕ). int_le (n *ℤ pos z) (q.num *ℤ pos p.den)) (sym sq.den)
    ∙ ap (λ (z : ℤ). int_le (n *ℤ pos d) (z *ℤ pos p.den)) (sym sq.num)
    ∙ ap (λ (z : ℕ). int_le (n *ℤ pos d) (m *ℤ pos z)) (sym sp.den)

cmp_by : (p q : ℚ) (s t : Bool) → le_ℚ p q ≡ s → le_ℚ q p ≡ t → cmp_ℚ p q ≡ cond s (cond t Equal Less) Greater
cmp_by p q s t e f = ap (λ (z : Bool). cond z (cond (le_ℚ q p) Equal Less) Greater) e ∙ ap (λ (z : Bool). cond s (cond z Equal Less) Greater) f

int_cmp_is : (n m : ℤ) → int_cmp n m ≡ cond (int_le n m) (cond (int_le m n) Equal Less) Greater
int_cmp_is n m = grind (arith, ints)

nat_cmp_is_tests : (x y : ℕ) → nat_cmp x y ≡ cond (nat_le x y) (cond (nat_le y x) Equal Less) Greater
nat_cmp_is_tests x y = grind (arith, nat_tests)

-- with one denominator the numerators decide
pub cmp_same_den : (p q : ℚ) (n m : ℤ) (b d : ℕ) → IsStored p n b → IsStored q m d → b ≡ d → int_cmp n m ≡ cmp_ℚ p q
cmp_same_den p q n m b d sp sq e =
    let some : 0 < b = subst (λ (z : ℕ). 0 < z) (sym sp.den) p.positive in
    let left : le_ℚ p q ≡ int_le n m = crossed p q n m b d sp sq ∙ ap (λ (z : ℕ). int_le (n *ℤ pos z) (m *ℤ pos b)) (sym e) ∙ le-mul_positive n m b some in
    let right : le_ℚ q p ≡ int_le m n = crossed q p m n d b sq sp ∙ ap (λ (z : ℕ). int_le (m *ℤ pos b) (n *ℤ pos z)) (sym e) ∙ le-mul_positive m n b some in
    int_cmp_is n m ∙ sym (cmp_by p q (int_le n m) (int_le m n) left right)

-- and else the products across
pub cmp_across : (p q : ℚ) (n m : ℤ) (b d : ℕ) (x y : ℤ) → IsStored p n b → IsStored q m d → x ≡ n *ℤ pos d → y ≡ m *ℤ pos b → int_cmp x y ≡ cmp_ℚ p q
cmp_across p q n m b d x y sp sq ex ey =
    ap (λ (z : ℤ). int_cmp z y) ex
    ∙ ap (int_cmp (n *ℤ pos d)) ey
    ∙ int_cmp_is (n *ℤ pos d) (m *ℤ pos b)
    ∙ sym (cmp_by p q (int_le (n *ℤ pos d) (m *ℤ pos b)) (int_le (m *ℤ pos b) (n *ℤ pos d)) (crossed p q n m b d sp sq) (crossed q p m n d b sq sp))

nonnegative_is : (n : ℤ) → is_below_zero n ≡ false → n ≡ pos (unsigned_abs n)
nonnegative_is (pos n) h = refl
nonnegative_is (negsuc n) h = cc

negative_is : (n : ℤ) → is_below_zero n ≡ true → n ≡ neg_ℤ (pos (unsigned_abs n))
negative_is (pos n) h = cc
negative_is (negsuc n) h = refl

-- numbers that are not negative
pub cmp_nonnegative : (p q : ℚ) (n m : ℤ) (b d x y : ℕ) → IsStored p n b → IsStored q m d → x ≡ unsigned_abs n → y ≡ unsigned_abs m → is_below_zero n ≡ false → is_below_zero m ≡ false → nat_cmp (x * d) (y * b) ≡ cmp_ℚ p q
cmp_nonnegative p q n m b d x y sp sq ex ey hn hm =
    let n_is : n ≡ pos x = nonnegative_is n hn ∙ ap pos (sym ex) in
    let m_is : m ≡ pos y = nonnegative_is m hm ∙ ap pos (sym ey) in
    let left : le_ℚ p q ≡ nat_le (x * d) (y * b) = crossed p q n m b d sp sq ∙ ap (λ (z : ℤ). int_le (z *ℤ pos d) (m *ℤ pos b)) n_is ∙ ap (λ (z : ℤ). int_le (pos x *ℤ pos d) (z *ℤ pos b)) m_is in
    let right : le_ℚ q p ≡ nat_le (y * b) (x * d) = crossed q p m n d b sq sp ∙ ap (λ (z : ℤ). int_le (z *ℤ pos b) (n *ℤ pos d)) m_is ∙ ap (λ (z : ℤ). int_le (pos y *ℤ pos b) (z *ℤ pos d)) n_is in
    nat_cmp_is_tests (x * d) (y * b) ∙ sym (cmp_by p q (nat_le (x * d) (y * b)) (nat_le (y * b) (x * d)) left right)

neg_product : (x d : ℕ) → neg_ℤ (pos x) *ℤ pos d ≡ neg_ℤ (pos (x * d))
neg_product x d = ring integers (pos x ∷ pos d ∷ []) (⊖ v0 ⊗ v1) (⊖ (v0 ⊗ v1)) refl

le_negatives : (x y : ℕ) → int_le (neg_ℤ (pos x)) (neg_ℤ (pos y)) ≡ nat_le y x
le_negatives zero zero = refl
le_negatives zero (suc y) = grind (arith, nat_tests)
le_negatives (suc x) zero = grind (arith, nat_tests)
le_negatives (suc x) (suc y) = grind (arith, nat_tests)

le_negative_products : (x d y b : ℕ) → int_le (neg_ℤ (pos x) *ℤ pos d) (neg_ℤ (pos y) *ℤ pos b) ≡ nat_le (y * b) (x * d)
le_negative_products x d y b = ap (λ (z : ℤ). int_le z (neg_ℤ (pos y) *ℤ pos b)) (neg_product x d) ∙ ap (λ (z : ℤ). int_le (neg_ℤ (pos (x * d))) z) (neg_product y b) ∙ le_negatives (x * d) (y * b)

-- negative numbers: the magnitudes, the other way round
pub cmp_negative : (p q : ℚ) (n m : ℤ) (b d x y : ℕ) → IsStored p n b → IsStored q m d → x ≡ unsigned_abs n → y ≡ unsigned_abs m → is_below_zero n ≡ true → is_below_zero m ≡ true → nat_cmp (y * b) (x * d) ≡ cmp_ℚ p q
cmp_negative p q n m b d x y sp sq ex ey hn hm =
    let n_is : n ≡ neg_ℤ (pos x) = negative_is n hn ∙ ap (λ (z : ℕ). neg_ℤ (pos z)) (sym ex) in
    let m_is : m ≡ neg_ℤ (pos y) = negative_is m hm ∙ ap (λ (z : ℕ). neg_ℤ (pos z)) (sym ey) in
    let left : le_ℚ p q ≡ nat_le (y * b) (x * d) = crossed p q n m b d sp sq ∙ ap (λ (z : ℤ). int_le (z *ℤ pos d) (m *ℤ pos b)) n_is ∙ ap (λ (z : ℤ). int_le (neg_ℤ (pos x) *ℤ pos d) (z *ℤ pos b)) m_is ∙ le_negative_products x d y b in
    let right : le_ℚ q p ≡ nat_le (x * d) (y * b) = crossed q p m n d b sq sp ∙ ap (λ (z : ℤ). int_le (z *ℤ pos b) (n *ℤ pos d)) m_is ∙ ap (λ (z : ℤ). int_le (neg_ℤ (pos y) *ℤ pos b) (z *ℤ pos d)) n_is ∙ le_negative_products y b x d in
    nat_cmp_is_tests (y * b) (x * d) ∙ sym (cmp_by p q (nat_le (y * b) (x * d)) (nat_le (x * d) (y * b)) left right)

at_least_zero : (n : ℤ) → is_below_zero n ≡ false → IsTrue (int_le (pos 0) n)
at_least_zero (pos n) h = grind (arith, nat_tests)
at_least_zero (negsuc n) h = cc

under_zero : (n : ℤ) → is_below_zero n ≡ true → IsTrue (not (int_le (pos 0) n))
under_zero (pos n) h = cc
under_zero (negsuc n) h = refl

less_by_sign : (p q : ℚ) (n m : ℤ) (b d : ℕ) → IsStored p n b → IsStored q m d → is_below_zero n ≡ true → is_below_zero m ≡ false → p <ℚ q
less_by_sign p q n m b d sp sq hn hm =
    let less : p <ℚ zero_ℚ = subst (λ (z : Bool). IsTrue (not z)) (sym (nonnegative_num p)) (subst (λ (z : ℤ). IsTrue (not (int_le (pos 0) z))) sp.num (under_zero n hn)) in
    let more : zero_ℚ ≤ℚ q = subst (λ (z : Bool). IsTrue z) (sym (nonnegative_num q)) (subst (λ (z : ℤ). IsTrue (int_le (pos 0) z)) sq.num (at_least_zero m hm)) in
    lt-le_trans p zero_ℚ q less more

-- a negative number is less than one that is not
pub cmp_signs : (p q : ℚ) (n m : ℤ) (b d : ℕ) → IsStored p n b → IsStored q m d → is_below_zero n ≡ true → is_below_zero m ≡ false → Less ≡ cmp_ℚ p q
cmp_signs p q n m b d sp sq hn hm = sym (cmp_ℚ-less p q (less_by_sign p q n m b d sp sq hn hm))

pub cmp_signs_turned : (p q : ℚ) (n m : ℤ) (b d : ℕ) → IsStored p n b → IsStored q m d → is_below_zero n ≡ false → is_below_zero m ≡ true → Greater ≡ cmp_ℚ p q
cmp_signs_turned p q n m b d sp sq hn hm = sym (cmp_ℚ-greater p q (less_by_sign q p m n d b sq sp hm hn))

-- the sign of a stored number, from the test
pub sign_from_test : (n : ℤ) (s : Bool) → unsigned_abs n < 2 ^ 120 → int_lt (to_z w128 (of_z w128 n)) (pos 0) ≡ s → is_below_zero n ≡ s
sign_from_test n s h e = ap is_below_zero (sym (kept n h)) ∙ sym (below_zero (to_z w128 (of_z w128 n))) ∙ e

-- ---- equality

pub same_bits : (n m : ℤ) → unsigned_abs n < 2 ^ 120 → unsigned_abs m < 2 ^ 120 → of_z w128 n ≡ of_z w128 m → n ≡ m
same_bits n m h k e = sym (kept n h) ∙ ap (to_z w128) e ∙ kept m k

eqb_is : (x y : ℕ) → IsTrue (x == y) → x ≡ y
eqb_is x y h = grind (arith, nat_tests)

is_eqb : (x y : ℕ) → x ≡ y → IsTrue (x == y)
is_eqb x y h = grind (arith, nat_tests)

-- with one numerator the denominators decide
pub same_by_den : (p q : ℚ) (n m : ℤ) (b d : ℕ) → IsStored p n b → IsStored q m d → n ≡ m → (b == d) ≡ same_ℚ p q
same_by_den p q n m b d sp sq e =
    same_test (b == d) (same_ℚ p q)
    (λ t. (same_ℚ-is p q).1 (same_parts p q (sym sp.num ∙ e ∙ sq.num) (sym sp.den ∙ eqb_is b d t ∙ sq.den)))
    (λ t. is_eqb b d (sp.den ∙ ap (λ (x : ℚ). x.den) ((same_ℚ-is p q).0 t) ∙ sym sq.den))

-- and other numerators are of other numbers
pub other_by_num : (w : Width) (p q : ℚ) (n m : ℤ) (b d : ℕ) → IsStored p n b → IsStored q m d → (of_z w n ≡ of_z w m → ⊥) → (of_z w n == of_z w m) ≡ same_ℚ p q
other_by_num w p q n m b d sp sq other =
    same_test (of_z w n == of_z w m) (same_ℚ p q)
    (λ t. absurd (other (eqb_is (of_z w n) (of_z w m) t)))
    (λ t. absurd (other (ap (of_z w) (sp.num ∙ ap (λ (x : ℚ). x.num) ((same_ℚ-is p q).0 t) ∙ sym sq.num))))

-- a number that the test for 0 tells from 0 is not 0
pub other_than_zero : (p z : ℚ) (test : Bool) → z ≡ zero_ℚ → test ≡ same_ℚ p z → test ≡ false → p ≢ zero_ℚ
other_than_zero p z test is answer other = λ e. let same = (same_ℚ-is p z).1 (e ∙ sym is) in cc
