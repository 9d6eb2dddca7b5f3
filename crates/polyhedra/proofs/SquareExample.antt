-- The square's corner and side, its centre, and the line at its corner.
use Rattle.std.proofs.Common.{◌≡◌, List, [], ◌∷◌, length, refl, sym, ap, ap₂, ◌∙◌, subst, arith}
use Rattle.exact_field.specs.Gcd.{gcd}
use Rattle.exact_field.specs.Rational.{ℚ, zero_ℚ, one_ℚ, whole, fraction, ◌+ℚ◌, ◌*ℚ◌, le_ℚ, ◌≤ℚ◌}
use Rattle.exact_field.specs.Vector.{dot}
use Rattle.polyhedra.specs.Vectors.{plus}
use Rattle.polyhedra.specs.Inequality.{Inequality}
use Rattle.polyhedra.specs.Hull.{IsVertex, IsValidAt, IsFacet}
use Rattle.polyhedra.specs.Examples.{half, IsInSquare, left_side, corner_line, SquareExample}
use Rattle.polyhedra.proofs.Laws.{add_comm, add_zero, mul_one, le_refl, le_of_lt, le_antisymm, mul_nonneg, zero_lt_one}
use Rattle.polyhedra.proofs.Algebra.{zero_add, mul_zero, zero_mul, one_mul, add_cancel}
use Rattle.polyhedra.proofs.Order.{add_zero_left, not_zero_of_positive}
use Rattle.polyhedra.proofs.Linear.{plus_comm}

-- ---- numbers
zero_le_half : zero_ℚ ≤ℚ half
unfolding whole fraction le_ℚ gcd
zero_le_half = refl

half_le_one : half ≤ℚ one_ℚ
unfolding whole fraction le_ℚ gcd
half_le_one = refl

half_sum_below : half +ℚ half ≤ℚ one_ℚ
unfolding whole fraction le_ℚ gcd ◌+ℚ◌
half_sum_below = refl

half_sum_above : one_ℚ ≤ℚ half +ℚ half
unfolding whole fraction le_ℚ gcd ◌+ℚ◌
half_sum_above = refl

half_and_half : half +ℚ half ≡ one_ℚ
half_and_half = le_antisymm (half +ℚ half) one_ℚ half_sum_below half_sum_above

half_not_zero : half ≡ zero_ℚ → ⊥
half_not_zero e = not_zero_of_positive one_ℚ zero_lt_one (sym half_and_half ∙ ap₂ (λ a b. a +ℚ b) e e ∙ add_zero zero_ℚ)

half_not_one : one_ℚ ≡ half → ⊥
half_not_one e = half_not_zero (add_cancel half zero_ℚ half (half_and_half ∙ e ∙ sym (zero_add half)))

-- ---- the corner and the centre
corner_side : (a b : List ℚ) → IsInSquare a → IsInSquare b → plus (zero_ℚ ∷ zero_ℚ ∷ []) (zero_ℚ ∷ zero_ℚ ∷ []) ≡ plus a b → a ≡ zero_ℚ ∷ zero_ℚ ∷ []
corner_side [] b h k e = absurd (omega (arith, h.wide))
corner_side (x ∷ []) b h k e = absurd (omega (arith, h.wide))
corner_side (x ∷ y ∷ z ∷ a) b h k e = absurd (omega (arith, h.wide))
corner_side (x ∷ y ∷ []) [] h k e = absurd (omega (arith, k.wide))
corner_side (x ∷ y ∷ []) (u ∷ []) h k e = absurd (omega (arith, k.wide))
corner_side (x ∷ y ∷ []) (u ∷ v ∷ w ∷ b) h k e = absurd (omega (arith, k.wide))
corner_side (x ∷ y ∷ []) (u ∷ v ∷ []) h k e =
    let first : zero_ℚ +ℚ zero_ℚ ≡ x +ℚ u = cc in
    let second : zero_ℚ +ℚ zero_ℚ ≡ y +ℚ v = cc in
    ap₂ (λ p q. p ∷ q ∷ []) (add_zero_left x u h.left k.left (sym first ∙ add_zero zero_ℚ)) (add_zero_left y v h.below k.below (sym second ∙ add_zero zero_ℚ))

zero_in : IsInSquare (zero_ℚ ∷ zero_ℚ ∷ [])
zero_in = record { wide = refl; left = le_refl zero_ℚ; right = le_of_lt zero_ℚ one_ℚ zero_lt_one; below = le_refl zero_ℚ; above = le_of_lt zero_ℚ one_ℚ zero_lt_one }

opposite_in : IsInSquare (one_ℚ ∷ one_ℚ ∷ [])
opposite_in = record { wide = refl; left = le_of_lt zero_ℚ one_ℚ zero_lt_one; right = le_refl one_ℚ; below = le_of_lt zero_ℚ one_ℚ zero_lt_one; above = le_refl one_ℚ }

upper_in : IsInSquare (zero_ℚ ∷ one_ℚ ∷ [])
upper_in = record { wide = refl; left = le_refl zero_ℚ; right = le_of_lt zero_ℚ one_ℚ zero_lt_one; below = le_of_lt zero_ℚ one_ℚ zero_lt_one; above = le_refl one_ℚ }

centre_sum : plus (half ∷ half ∷ []) (half ∷ half ∷ []) ≡ plus (zero_ℚ ∷ zero_ℚ ∷ []) (one_ℚ ∷ one_ℚ ∷ [])
centre_sum = ap₂ (λ p q. p ∷ q ∷ []) (half_and_half ∙ sym (zero_add one_ℚ)) (half_and_half ∙ sym (zero_add one_ℚ))

centre_is_none : IsVertex IsInSquare (half ∷ half ∷ []) → ⊥
centre_is_none h =
    let e : zero_ℚ ∷ zero_ℚ ∷ [] ≡ half ∷ half ∷ [] = (h.no_midpoint (zero_ℚ ∷ zero_ℚ ∷ []) (one_ℚ ∷ one_ℚ ∷ []) zero_in opposite_in centre_sum).0 in
    let f : zero_ℚ ≡ half = cc in
    half_not_zero (sym f)

-- ---- the side and the line
c : List ℚ
c = one_ℚ ∷ one_ℚ ∷ []

-- the product with (x, y), of a normal of two entries
value_two : (p q x y : ℚ) → dot (p ∷ q ∷ []) (x ∷ y ∷ []) ≡ p *ℚ x +ℚ q *ℚ y
value_two p q x y = ap (λ a. p *ℚ x +ℚ a) (add_zero (q *ℚ y))

at_c : (p q : ℚ) → dot (p ∷ q ∷ []) c ≡ p +ℚ q
unfolding c
at_c p q = value_two p q one_ℚ one_ℚ ∙ ap₂ (λ a b. a +ℚ b) (mul_one p) (mul_one q)

at_zero : (p q : ℚ) → dot (p ∷ q ∷ []) (zero_ℚ ∷ zero_ℚ ∷ []) ≡ zero_ℚ
at_zero p q = value_two p q zero_ℚ zero_ℚ ∙ ap₂ (λ a b. a +ℚ b) (mul_zero p) (mul_zero q) ∙ add_zero zero_ℚ

at_upper : (p q : ℚ) → dot (p ∷ q ∷ []) (zero_ℚ ∷ one_ℚ ∷ []) ≡ q
at_upper p q = value_two p q zero_ℚ one_ℚ ∙ ap₂ (λ a b. a +ℚ b) (mul_zero p) (mul_one q) ∙ zero_add q

left_value : (x y : ℚ) → dot left_side.normal (x ∷ y ∷ []) ≡ x
left_value x y = value_two one_ℚ zero_ℚ x y ∙ ap₂ (λ a b. a +ℚ b) (one_mul x) (zero_mul y) ∙ add_zero x

left_holds : (y : List ℚ) → IsInSquare y → zero_ℚ ≤ℚ dot left_side.normal y
left_holds [] h = absurd (omega (arith, h.wide))
left_holds (x ∷ []) h = absurd (omega (arith, h.wide))
left_holds (x ∷ y ∷ z ∷ v) h = absurd (omega (arith, h.wide))
left_holds (x ∷ y ∷ []) h = subst (λ (a : ℚ). zero_ℚ ≤ℚ a) (sym (left_value x y)) h.left

left_valid : IsValidAt 2 IsInSquare c left_side
unfolding c
left_valid = record { valid = record { wide = refl; holds = left_holds }; normed = at_c one_ℚ zero_ℚ ∙ add_zero one_ℚ }

side_of : (a b : Inequality) → IsValidAt 2 IsInSquare c a → IsValidAt 2 IsInSquare c b → (u v : List ℚ) → a.normal ≡ u → b.normal ≡ v →
    plus left_side.normal left_side.normal ≡ plus u v → zero_ℚ +ℚ zero_ℚ ≡ a.bound +ℚ b.bound → a ≡ left_side
side_of a b h k [] v m o e f = absurd (omega (arith, ap length m, h.wide))
side_of a b h k (p ∷ []) v m o e f = absurd (omega (arith, ap length m, h.wide))
side_of a b h k (p ∷ q ∷ r ∷ u) v m o e f = absurd (omega (arith, ap length m, h.wide))
side_of a b h k (p ∷ q ∷ []) [] m o e f = absurd (omega (arith, ap length o, k.wide))
side_of a b h k (p ∷ q ∷ []) (r ∷ []) m o e f = absurd (omega (arith, ap length o, k.wide))
side_of a b h k (p ∷ q ∷ []) (r ∷ t ∷ w ∷ v) m o e f = absurd (omega (arith, ap length o, k.wide))
side_of a b h k (p ∷ q ∷ []) (r ∷ t ∷ []) m o e f =
    let a_low : a.bound ≤ℚ zero_ℚ = subst (λ (x : ℚ). a.bound ≤ℚ x) (ap (λ w. dot w (zero_ℚ ∷ zero_ℚ ∷ [])) m ∙ at_zero p q)
    (h.holds (zero_ℚ ∷ zero_ℚ ∷ []) zero_in) in
    let b_low : b.bound ≤ℚ zero_ℚ = subst (λ (x : ℚ). b.bound ≤ℚ x) (ap (λ w. dot w (zero_ℚ ∷ zero_ℚ ∷ [])) o ∙ at_zero r t)
    (k.holds (zero_ℚ ∷ zero_ℚ ∷ []) zero_in) in
    let bounds : (a.bound ≡ zero_ℚ) × (b.bound ≡ zero_ℚ) = both_zero a.bound b.bound a_low b_low (sym f ∙ add_zero zero_ℚ) in
    let a_up : zero_ℚ ≤ℚ q = subst (λ (x : ℚ). x ≤ℚ q) bounds.0
    (subst (λ (x : ℚ). a.bound ≤ℚ x) (ap (λ w. dot w (zero_ℚ ∷ one_ℚ ∷ [])) m ∙ at_upper p q) (h.holds (zero_ℚ ∷ one_ℚ ∷ []) upper_in)) in
    let b_up : zero_ℚ ≤ℚ t = subst (λ (x : ℚ). x ≤ℚ t) bounds.1
    (subst (λ (x : ℚ). b.bound ≤ℚ x) (ap (λ w. dot w (zero_ℚ ∷ one_ℚ ∷ [])) o ∙ at_upper r t) (k.holds (zero_ℚ ∷ one_ℚ ∷ []) upper_in)) in
    let second : zero_ℚ +ℚ zero_ℚ ≡ q +ℚ t = cc in
    let q_zero : q ≡ zero_ℚ = add_zero_left q t a_up b_up (sym second ∙ add_zero zero_ℚ) in
    let p_one : p ≡ one_ℚ = sym (add_zero p) ∙ ap (λ x. p +ℚ x) (sym q_zero) ∙ sym (at_c p q) ∙ ap (λ w. dot w c) (sym m) ∙ h.normed in
    let normals : a.normal ≡ left_side.normal = m ∙ ap₂ (λ x y. x ∷ y ∷ []) p_one q_zero in
    λ i. record { normal = normals i; bound = bounds.0 i }
  where
    both_zero : (x y : ℚ) → x ≤ℚ zero_ℚ → y ≤ℚ zero_ℚ → x +ℚ y ≡ zero_ℚ → (x ≡ zero_ℚ) × (y ≡ zero_ℚ)
    both_zero x y s u z =
        let first : x ≡ zero_ℚ = le_antisymm x zero_ℚ s (subst (λ (w : ℚ). w ≤ℚ x) z
        (subst (λ (w : ℚ). x +ℚ y ≤ℚ w) (add_zero x) (Rattle.polyhedra.proofs.Laws.add_le y zero_ℚ x u))) in
        (first, sym (zero_add y) ∙ ap (λ w. w +ℚ y) (sym first) ∙ z)

side_is_facet : IsFacet 2 IsInSquare c left_side
side_is_facet = record {
  valid = left_valid;
  no_midpoint = λ a b h k e f. (
    side_of a b h k a.normal b.normal refl refl e f,
    side_of b a k h b.normal a.normal refl refl (e
        ∙ plus_comm a.normal b.normal) (f ∙ add_comm a.bound b.bound),
  );
}

lower : Inequality
lower = record { normal = zero_ℚ ∷ one_ℚ ∷ []; bound = zero_ℚ }

lower_holds : (y : List ℚ) → IsInSquare y → zero_ℚ ≤ℚ dot (zero_ℚ ∷ one_ℚ ∷ []) y
lower_holds [] h = absurd (omega (arith, h.wide))
lower_holds (x ∷ []) h = absurd (omega (arith, h.wide))
lower_holds (x ∷ y ∷ z ∷ v) h = absurd (omega (arith, h.wide))
lower_holds (x ∷ y ∷ []) h = subst (λ (a : ℚ). zero_ℚ ≤ℚ a)
    (sym (value_two zero_ℚ one_ℚ x y ∙ ap₂ (λ a b. a +ℚ b) (zero_mul x) (one_mul y) ∙ zero_add y)) h.below

lower_valid : IsValidAt 2 IsInSquare c lower
unfolding lower c
lower_valid = record { valid = record { wide = refl; holds = lower_holds }; normed = at_c zero_ℚ one_ℚ ∙ zero_add one_ℚ }

line_is_none : IsFacet 2 IsInSquare c corner_line → ⊥
unfolding lower
line_is_none h =
    let e : left_side ≡ corner_line = (h.no_midpoint left_side lower left_valid lower_valid
    (ap₂ (λ x y. x ∷ y ∷ []) (half_and_half ∙ sym (add_zero one_ℚ)) (half_and_half ∙ sym (zero_add one_ℚ))) refl).0 in
    let normals : one_ℚ ∷ zero_ℚ ∷ [] ≡ half ∷ half ∷ [] = ap (λ x. x.normal) e in
    let f : one_ℚ ≡ half = cc in
    half_not_one f

pub square_example : SquareExample
unfolding c
square_example = record {
  corner = record { member = zero_in; no_midpoint = λ a b h k e. (corner_side a b h k e, corner_side b a k h (e ∙ plus_comm a b)) };
  centre = centre_is_none;
  side = side_is_facet;
  line = line_is_none;
}
