-- Identities by the ring tool, each in one line: over every commutative ring, over the whole numbers, over the rational numbers.
use Rattle.std.specs.Prelude.{List, ◌≡◌, ℤ, pos, ◌+ℤ◌, ◌*ℤ◌, neg_ℤ, refl, [], ◌∷◌}
use Rattle.exact_field.specs.Laws.{Identities}
use Rattle.exact_field.specs.Ring.{Ring, Poly, value, var, num, ◌⊕◌, ◌⊗◌, ◌⊝◌, v0, v1, v2, v3, v4, v5}
use Rattle.exact_field.proofs.Rationals.{rationals}
use Rattle.exact_field.proofs.RingTool.{ring, ring_by, integers}
use Rattle.exact_field.proofs.Inequalities.{le_ring, square-nonnegative}
use Rattle.exact_field.specs.Rational.{ℚ, whole, ◌+ℚ◌, ◌-ℚ◌, ◌*ℚ◌, ◌≤ℚ◌}

-- ---- over every commutative ring

pub distributive : {A : Type 0} (R : Ring A) (a b c d : A) → R.mul a (R.add b (R.add c d)) ≡ R.add (R.mul a b) (R.add (R.mul a c) (R.mul a d))
distributive R a b c d = ring R (a ∷ b ∷ c ∷ d ∷ []) (v0 ⊗ (v1 ⊕ (v2 ⊕ v3))) (v0 ⊗ v1 ⊕ (v0 ⊗ v2 ⊕ v0 ⊗ v3)) refl

-- sums of the fractions a / b, c / d and e / f, grouped either way, across: degree 6 in six variables
pub fractions_across : {A : Type 0} (R : Ring A) (a b c d e f : A) → R.mul (R.add (R.mul (R.add (R.mul a d) (R.mul c b)) f) (R.mul e (R.mul b d))) (R.mul b (R.mul d f)) ≡ R.mul (R.add (R.mul a (R.mul d f)) (R.mul (R.add (R.mul c f) (R.mul e d)) b)) (R.mul (R.mul b d) f)
fractions_across R a b c d e f =
    ring R (a ∷ b ∷ c ∷ d ∷ e ∷ f ∷ []) (((v0 ⊗ v3 ⊕ v2 ⊗ v1) ⊗ v5 ⊕ v4 ⊗ (v1 ⊗ v3)) ⊗ (v1 ⊗ (v3 ⊗ v5))) ((v0 ⊗ (v3 ⊗ v5) ⊕ (v2 ⊗ v5 ⊕ v4 ⊗ v3) ⊗ v1) ⊗ ((v1 ⊗ v3) ⊗ v5)) refl

-- a dense polynomial of degree 6 in six variables, of 462 monomials, multiplied out in two orders
abbrev sum_of_six : Poly
sum_of_six = v0 ⊕ v1 ⊕ v2 ⊕ v3 ⊕ v4 ⊕ v5

abbrev sum_turned : Poly
sum_turned = v5 ⊕ v4 ⊕ v3 ⊕ v2 ⊕ v1 ⊕ v0

abbrev cube_of : Poly → Poly
cube_of p = p ⊗ p ⊗ p

abbrev square_of : Poly → Poly
square_of p = p ⊗ p

pub sixth_power : {A : Type 0} (R : Ring A) (xs : List A) → value R xs (square_of (cube_of sum_of_six)) ≡ value R xs (cube_of (square_of sum_turned))
sixth_power R xs = ring R xs (square_of (cube_of sum_of_six)) (cube_of (square_of sum_turned)) refl

-- ---- over the whole numbers

pub cube_of_difference : (a b : ℤ) → (a +ℤ neg_ℤ b) *ℤ (a +ℤ neg_ℤ b) *ℤ (a +ℤ neg_ℤ b) ≡ a *ℤ a *ℤ a +ℤ neg_ℤ (pos 3 *ℤ a *ℤ a *ℤ b) +ℤ pos 3 *ℤ a *ℤ b *ℤ b +ℤ neg_ℤ (b *ℤ b *ℤ b)
cube_of_difference a b =
    ring integers (a ∷ b ∷ []) ((v0 ⊝ v1) ⊗ (v0 ⊝ v1) ⊗ (v0 ⊝ v1)) (v0 ⊗ v0 ⊗ v0 ⊝ num (pos 3) ⊗ v0 ⊗ v0 ⊗ v1 ⊕ num (pos 3) ⊗ v0 ⊗ v1 ⊗ v1 ⊝ v1 ⊗ v1 ⊗ v1) refl

-- ---- over the rational numbers

pub identities : Identities
identities =
    record {
      square_of_sum = λ a b. ring rationals (a ∷ b ∷ []) ((v0 ⊕ v1) ⊗ (v0 ⊕ v1)) (v0 ⊗ v0 ⊕ num (pos 2) ⊗ v0 ⊗ v1 ⊕ v1 ⊗ v1) refl;
      difference_of_squares = λ a b. ring rationals (a ∷ b ∷ []) ((v0 ⊕ v1) ⊗ (v0 ⊝ v1)) (v0 ⊗ v0 ⊝ v1 ⊗ v1) refl;
      sum_of_cubes = λ a b. ring rationals (a ∷ b ∷ []) ((v0 ⊕ v1) ⊗ (v0 ⊗ v0 ⊝ v0 ⊗ v1 ⊕ v1 ⊗ v1)) (v0 ⊗ v0 ⊗ v0 ⊕ v1 ⊗ v1 ⊗ v1) refl;
      product_of_two_squares =
          λ a b c d.
          ring rationals (a ∷ b ∷ c ∷ d ∷ []) ((v0 ⊗ v0 ⊕ v1 ⊗ v1) ⊗ (v2 ⊗ v2 ⊕ v3 ⊗ v3)) ((v0 ⊗ v2 ⊝ v1 ⊗ v3) ⊗ (v0 ⊗ v2 ⊝ v1 ⊗ v3) ⊕ (v0 ⊗ v3 ⊕ v1 ⊗ v2) ⊗ (v0 ⊗ v3 ⊕ v1 ⊗ v2)) refl;
      lagrange =
          λ a b c x y z.
          ring rationals (a ∷ b ∷ c ∷ x ∷ y ∷ z ∷ []) ((v0 ⊗ v0 ⊕ v1 ⊗ v1 ⊕ v2 ⊗ v2) ⊗ (v3 ⊗ v3 ⊕ v4 ⊗ v4 ⊕ v5 ⊗ v5))
          ((v0 ⊗ v3 ⊕ v1 ⊗ v4 ⊕ v2 ⊗ v5) ⊗ (v0 ⊗ v3 ⊕ v1 ⊗ v4 ⊕ v2 ⊗ v5) ⊕ (v0 ⊗ v4 ⊝ v1 ⊗ v3) ⊗ (v0 ⊗ v4 ⊝ v1 ⊗ v3) ⊕ (v0 ⊗ v5 ⊝ v2 ⊗ v3) ⊗ (v0 ⊗ v5 ⊝ v2 ⊗ v3) ⊕ (v1 ⊗ v5 ⊝ v2 ⊗ v4) ⊗ (v1 ⊗ v5 ⊝ v2 ⊗ v4)) refl;
      cauchy_binet =
          λ a b c d e f g h.
          ring rationals (a ∷ b ∷ c ∷ d ∷ e ∷ f ∷ g ∷ h ∷ []) ((v0 ⊗ v4 ⊕ v1 ⊗ var 6) ⊗ (v2 ⊗ v5 ⊕ v3 ⊗ var 7) ⊝ (v0 ⊗ v5 ⊕ v1 ⊗ var 7) ⊗ (v2 ⊗ v4 ⊕ v3 ⊗ var 6)) ((v0 ⊗ v3 ⊝ v1 ⊗ v2) ⊗ (v4 ⊗ var 7 ⊝ v5 ⊗ var 6)) refl;
      plucker =
          λ a b c d e f g h.
          ring rationals (a ∷ b ∷ c ∷ d ∷ e ∷ f ∷ g ∷ h ∷ [])
          ((v0 ⊗ v5 ⊝ v1 ⊗ v4) ⊗ (v2 ⊗ var 7 ⊝ v3 ⊗ var 6) ⊝ (v0 ⊗ var 6 ⊝ v2 ⊗ v4) ⊗ (v1 ⊗ var 7 ⊝ v3 ⊗ v5) ⊕ (v0 ⊗ var 7 ⊝ v3 ⊗ v4) ⊗ (v1 ⊗ var 6 ⊝ v2 ⊗ v5)) (num (pos 0)) refl;
      vandermonde =
          λ a b c.
          ring rationals (a ∷ b ∷ c ∷ []) ((v0 ⊝ v1) ⊗ (v1 ⊝ v2) ⊗ (v2 ⊝ v0)) (v0 ⊗ v0 ⊗ (v2 ⊝ v1) ⊕ v1 ⊗ v1 ⊗ (v0 ⊝ v2) ⊕ v2 ⊗ v2 ⊗ (v1 ⊝ v0)) refl;
    }

-- ---- from equations, and for inequalities

-- equal fractions stay equal with the denominators added to the numerators
pub denominators_added : {A : Type 0} (R : Ring A) (a b c d : A) → R.mul a d ≡ R.mul c b → R.mul (R.add a b) d ≡ R.mul (R.add c d) b
denominators_added R a b c d h = ring_by R (a ∷ b ∷ c ∷ d ∷ []) ((v0 ⊕ v1) ⊗ v3) ((v2 ⊕ v3) ⊗ v1) (num (pos 1)) (v0 ⊗ v3) (v2 ⊗ v1) h refl

-- twice a product is at most the sum of the squares
pub twice_product_le : (a b : ℚ) → whole (pos 2) *ℚ a *ℚ b ≤ℚ a *ℚ a +ℚ b *ℚ b
twice_product_le a b = le_ring (a ∷ b ∷ []) (num (pos 2) ⊗ v0 ⊗ v1) (v0 ⊗ v0 ⊕ v1 ⊗ v1) ((v0 ⊝ v1) ⊗ (v0 ⊝ v1)) (square-nonnegative (a -ℚ b)) refl
