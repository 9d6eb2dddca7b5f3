-- The laws that the crate's law functions state.
use Rattle.std.specs.Prelude.{◌≡◌, ◌≢◌, ◌⊎◌, ◌↔◌, ℕ, ◌*◌, ◌<◌, ℤ, pos, neg_ℤ, ◌+ℤ◌, ◌*ℤ◌, unsigned_abs, int_le, int_lt, List, ◌∷◌, ◌++◌, map, length, All, IsTrue}
use Rattle.std.specs.Int.{IsGcd, ◌∣◌}
use Rattle.std.specs.Cmp.{IsTotalOrder}
use Rattle.exact_field.specs.Gcd.{gcd}
use Rattle.exact_field.specs.LeastQuotient.{IsLeastAt, IsGreatestStep}
use Rattle.exact_field.specs.Order.{same_ℚ, cmp_ℚ}
use Rattle.exact_field.specs.Rational.{ℚ, whole, zero_ℚ, one_ℚ, fraction, ◌+ℚ◌, ◌-ℚ◌, ◌*ℚ◌, ◌/ℚ◌, neg_ℚ, inverse_ℚ, le_ℚ, lt_ℚ, ◌≤ℚ◌, ◌<ℚ◌}
use Rattle.exact_field.specs.Ring.{Ring, Poly, value, normal}
use Rattle.exact_field.specs.Vector.{sum_ℚ, dot}

-- the rational numbers are a field
pub record FieldLaws : Type 0 where
  pub add_comm : (p q : ℚ) → p +ℚ q ≡ q +ℚ p
  pub add_assoc : (p q r : ℚ) → p +ℚ q +ℚ r ≡ p +ℚ (q +ℚ r)
  pub add_zero : (p : ℚ) → p +ℚ zero_ℚ ≡ p
  pub add_neg : (p : ℚ) → p +ℚ neg_ℚ p ≡ zero_ℚ
  pub mul_comm : (p q : ℚ) → p *ℚ q ≡ q *ℚ p
  pub mul_assoc : (p q r : ℚ) → p *ℚ q *ℚ r ≡ p *ℚ (q *ℚ r)
  pub mul_one : (p : ℚ) → p *ℚ one_ℚ ≡ p
  pub mul_add : (p q r : ℚ) → p *ℚ (q +ℚ r) ≡ p *ℚ q +ℚ p *ℚ r
  pub one_not_zero : one_ℚ ≢ zero_ℚ
  pub mul_inverse : (p : ℚ) → p ≢ zero_ℚ → p *ℚ inverse_ℚ p ≡ one_ℚ
  pub div_mul : (p q : ℚ) → q ≢ zero_ℚ → p /ℚ q *ℚ q ≡ p

-- the greatest common divisor by Euclid, and Gauss's lemma: what divides a product and has no common divisor with one
-- factor divides the other; so a number has one form in lowest terms, and two fractions are one number exactly where the cross products are equal
pub record FractionLaws : Type 0 where
  pub greatest_common_divisor : (a b : ℕ) → IsGcd a b (gcd a b)
  pub coprime_factor : (a b c : ℕ) → IsGcd a b 1 → b ∣ c * a → b ∣ c
  pub one_lowest_form : (n m : ℤ) (d e : ℕ) → 0 < d → 0 < e → IsGcd (unsigned_abs n) d 1 → IsGcd (unsigned_abs m) e 1 → n *ℤ pos e ≡ m *ℤ pos d → (n ≡ m) × (d ≡ e)
  pub one_number : (p q : ℚ) → p.num *ℤ pos q.den ≡ q.num *ℤ pos p.den → p ≡ q
  pub cross : (n : ℤ) (d : ℕ) → 0 < d → (fraction n d).num *ℤ pos d ≡ n *ℤ pos (fraction n d).den
  pub same : (n m : ℤ) (d e : ℕ) → 0 < d → 0 < e → (fraction n d ≡ fraction m e) ↔ (n *ℤ pos e ≡ m *ℤ pos d)
  pub parts : (q : ℚ) → fraction q.num q.den ≡ q
  pub add : (n m : ℤ) (d e : ℕ) → 0 < d → 0 < e → fraction n d +ℚ fraction m e ≡ fraction (n *ℤ pos e +ℤ m *ℤ pos d) (d * e)
  pub mul : (n m : ℤ) (d e : ℕ) → 0 < d → 0 < e → fraction n d *ℚ fraction m e ≡ fraction (n *ℤ m) (d * e)
  pub le : (n m : ℤ) (d e : ℕ) → 0 < d → 0 < e → le_ℚ (fraction n d) (fraction m e) ≡ int_le (n *ℤ pos e) (m *ℤ pos d)

-- the whole numbers among the rational numbers
pub record WholeLaws : Type 0 where
  pub injective : (n m : ℤ) → whole n ≡ whole m → n ≡ m
  pub add : (n m : ℤ) → whole n +ℚ whole m ≡ whole (n +ℤ m)
  pub mul : (n m : ℤ) → whole n *ℚ whole m ≡ whole (n *ℤ m)
  pub neg : (n : ℤ) → neg_ℚ (whole n) ≡ whole (neg_ℤ n)
  pub le : (n m : ℤ) → le_ℚ (whole n) (whole m) ≡ int_le n m
  pub lt : (n m : ℤ) → lt_ℚ (whole n) (whole m) ≡ int_lt n m

-- a total order that sums and products of nonnegative numbers respect
pub record OrderLaws : Type 0 where
  pub refl : (p : ℚ) → p ≤ℚ p
  pub antisym : (p q : ℚ) → p ≤ℚ q → q ≤ℚ p → p ≡ q
  pub trans : (p q r : ℚ) → p ≤ℚ q → q ≤ℚ r → p ≤ℚ r
  pub total : (p q : ℚ) → (p ≤ℚ q) ⊎ (q ≤ℚ p)
  pub less : (p q : ℚ) → (p <ℚ q) ↔ ((p ≤ℚ q) × (p ≢ q))
  pub three_cases : (p q : ℚ) → (p <ℚ q) ⊎ ((p ≡ q) ⊎ (q <ℚ p))
  pub same_or_not : (p q : ℚ) → (p ≡ q) ⊎ (p ≢ q)
  pub same_test : (p q : ℚ) → IsTrue (same_ℚ p q) ↔ (p ≡ q)
  pub compared : IsTotalOrder cmp_ℚ
  pub add : (p q r : ℚ) → le_ℚ (p +ℚ r) (q +ℚ r) ≡ le_ℚ p q
  pub neg : (p q : ℚ) → le_ℚ (neg_ℚ q) (neg_ℚ p) ≡ le_ℚ p q
  pub mul : (p q r : ℚ) → zero_ℚ <ℚ r → le_ℚ (p *ℚ r) (q *ℚ r) ≡ le_ℚ p q
  pub mul_nonnegative : (p q : ℚ) → zero_ℚ ≤ℚ p → zero_ℚ ≤ℚ q → zero_ℚ ≤ℚ p *ℚ q
  pub inverse_positive : (p : ℚ) → zero_ℚ <ℚ p → zero_ℚ <ℚ inverse_ℚ p

-- polynomials with one normal form have one value
abbrev pub OneNormalFormOneValue : {A : Type 0} → Ring A → Type 0
OneNormalFormOneValue {A} R = (xs : List A) (p q : Poly) → normal p ≡ normal q → value R xs p ≡ value R xs q

-- sums over lists
pub record SumLaws (A B : Type 0) : Type 0 where
  pub append : (ps qs : List ℚ) → sum_ℚ (ps ++ qs) ≡ sum_ℚ ps +ℚ sum_ℚ qs
  pub scaled : (k : ℚ) (f : A → ℚ) (xs : List A) → sum_ℚ (map (λ x. k *ℚ f x) xs) ≡ k *ℚ sum_ℚ (map f xs)
  pub added : (f g : A → ℚ) (xs : List A) → sum_ℚ (map (λ x. f x +ℚ g x) xs) ≡ sum_ℚ (map f xs) +ℚ sum_ℚ (map g xs)
  pub swapped : (f : A → B → ℚ) (xs : List A) (ys : List B) → sum_ℚ (map (λ x. sum_ℚ (map (λ y. f x y) ys)) xs) ≡ sum_ℚ (map (λ y. sum_ℚ (map (λ x. f x y) xs)) ys)
  pub nonnegative : (ps : List ℚ) → All (λ p. zero_ℚ ≤ℚ p) ps → zero_ℚ ≤ℚ sum_ℚ ps
  pub zero_only_of_zeros : (ps : List ℚ) → All (λ p. zero_ℚ ≤ℚ p) ps → sum_ℚ ps ≡ zero_ℚ → All (λ p. p ≡ zero_ℚ) ps
  pub dot_comm : (xs ys : List ℚ) → dot xs ys ≡ dot ys xs
  pub dot_scaled : (k : ℚ) (xs ys : List ℚ) → dot (map (λ x. k *ℚ x) xs) ys ≡ k *ℚ dot xs ys
  pub dot_append : (xs ys us vs : List ℚ) → length xs ≡ length ys → dot (xs ++ us) (ys ++ vs) ≡ dot xs ys +ℚ dot us vs

-- the least value over a list that is not empty, and the least quotient over the elements where g is positive
pub record LeastLaws (A : Type 0) : Type 0 where
  pub least : (f : A → ℚ) (x : A) (xs : List A) → (y : A) × IsLeastAt f (x ∷ xs) y
  pub step : (f g : A → ℚ) (xs : List A) → All (λ x. zero_ℚ ≤ℚ f x) xs → All (λ x. g x ≤ℚ zero_ℚ) xs ⊎ ((e : ℚ) × IsGreatestStep f g xs e)

-- identities by the ring tool
pub record Identities : Type 0 where
  pub square_of_sum : (a b : ℚ) → (a +ℚ b) *ℚ (a +ℚ b) ≡ a *ℚ a +ℚ whole (pos 2) *ℚ a *ℚ b +ℚ b *ℚ b
  pub difference_of_squares : (a b : ℚ) → (a +ℚ b) *ℚ (a -ℚ b) ≡ a *ℚ a -ℚ b *ℚ b
  pub sum_of_cubes : (a b : ℚ) → (a +ℚ b) *ℚ (a *ℚ a -ℚ a *ℚ b +ℚ b *ℚ b) ≡ a *ℚ a *ℚ a +ℚ b *ℚ b *ℚ b
  pub product_of_two_squares : (a b c d : ℚ) → (a *ℚ a +ℚ b *ℚ b) *ℚ (c *ℚ c +ℚ d *ℚ d) ≡ (a *ℚ c -ℚ b *ℚ d) *ℚ (a *ℚ c -ℚ b *ℚ d) +ℚ (a *ℚ d +ℚ b *ℚ c) *ℚ (a *ℚ d +ℚ b *ℚ c)
  pub lagrange : (a b c x y z : ℚ) → (a *ℚ a +ℚ b *ℚ b +ℚ c *ℚ c) *ℚ (x *ℚ x +ℚ y *ℚ y +ℚ z *ℚ z) ≡ (a *ℚ x +ℚ b *ℚ y +ℚ c *ℚ z) *ℚ (a *ℚ x +ℚ b *ℚ y +ℚ c *ℚ z) +ℚ (a *ℚ y -ℚ b *ℚ x) *ℚ (a *ℚ y -ℚ b *ℚ x) +ℚ (a *ℚ z -ℚ c *ℚ x) *ℚ (a *ℚ z -ℚ c *ℚ x) +ℚ (b *ℚ z -ℚ c *ℚ y) *ℚ (b *ℚ z -ℚ c *ℚ y)
  pub cauchy_binet : (a b c d e f g h : ℚ) → (a *ℚ e +ℚ b *ℚ g) *ℚ (c *ℚ f +ℚ d *ℚ h) -ℚ (a *ℚ f +ℚ b *ℚ h) *ℚ (c *ℚ e +ℚ d *ℚ g) ≡ (a *ℚ d -ℚ b *ℚ c) *ℚ (e *ℚ h -ℚ f *ℚ g)
  pub plucker : (a b c d e f g h : ℚ) → (a *ℚ f -ℚ b *ℚ e) *ℚ (c *ℚ h -ℚ d *ℚ g) -ℚ (a *ℚ g -ℚ c *ℚ e) *ℚ (b *ℚ h -ℚ d *ℚ f) +ℚ (a *ℚ h -ℚ d *ℚ e) *ℚ (b *ℚ g -ℚ c *ℚ f) ≡ zero_ℚ
  pub vandermonde : (a b c : ℚ) → (a -ℚ b) *ℚ (b -ℚ c) *ℚ (c -ℚ a) ≡ a *ℚ a *ℚ (c -ℚ b) +ℚ b *ℚ b *ℚ (a -ℚ c) +ℚ c *ℚ c *ℚ (b -ℚ a)
