-- The quadrant: the cone of the axes, its extreme directions and its interior, and that it meets the conditions of exactness.
use Rattle.std.proofs.Common.{◌≡◌, ◌≢◌, ℕ, zero, suc, List, [], ◌∷◌, length, All, Contains, refl, sym, ap, ap₂, ◌∙◌, subst, arith, ◌⊎◌, inl, inr, ◌<◌, slice_index_or, true}
use Rattle.std.proofs.lemmas.List.Elements.{All-nil, All-cons}
use Rattle.exact_field.specs.Gcd.{gcd}
use Rattle.exact_field.specs.Rational.{ℚ, zero_ℚ, one_ℚ, whole, fraction, ◌+ℚ◌, ◌*ℚ◌, neg_ℚ, le_ℚ, ◌≤ℚ◌, ◌<ℚ◌}
use Rattle.exact_field.specs.Vector.{dot}
use Rattle.polyhedra.specs.Vectors.{AreWide, zeros, plus, scaled, values}
use Rattle.polyhedra.specs.Cone.{IsGenerated, IsInDual, IsInterior}
use Rattle.polyhedra.specs.Dependence.{AreCorners}
use Rattle.polyhedra.specs.DoubleDescription.{is_zero}
use Rattle.polyhedra.specs.Inequality.{Inequality}
use Rattle.polyhedra.specs.Hull.{IsConvex, IsValidAt, IsExtremeDirection, IsNormedDirection}
use Rattle.polyhedra.specs.Exactness.{homogenised, level, row_of, rows_of, IsOneOf, TightLiesIn, IsNamed, IsAccounted, IsEnclosed, IsSolved}
use Rattle.polyhedra.specs.Examples.{IsInQuadrant, left_side, lower_side, axes, QuadrantExample}
use Rattle.polyhedra.proofs.Laws.{add_comm, add_zero, mul_one, le_refl, le_trans, le_of_lt, mul_nonneg, zero_lt_one}
use Rattle.polyhedra.proofs.Algebra.{zero_add, mul_zero, zero_mul, one_mul}
use Rattle.polyhedra.proofs.Order.{add_nonneg, add_positive, add_positive_right, zero_or_positive, not_zero_of_positive, lt_irrefl, difference_nonneg, le_of_eq}
use Rattle.polyhedra.proofs.Lists.{wide-nil, wide-cons, nonneg-nil, nonneg-cons, Contains-here, Contains-there, Contains-cases, Contains-nil}
use Rattle.polyhedra.proofs.Linear.{dot_comm}
use Rattle.polyhedra.proofs.Generated.{generated_by_values, generated_width}
use Rattle.polyhedra.proofs.Farkas.{generated_nonneg}
use Rattle.polyhedra.proofs.Corners.{start}
use Rattle.polyhedra.proofs.EnclosedDirections.{listed_is_extreme, extreme_is_listed}
use Rattle.polyhedra.proofs.Tests.{zero_of_test}

c : List ℚ
c = one_ℚ ∷ one_ℚ ∷ []

-- ---- vectors of two entries
value_two : (p q x y : ℚ) → dot (p ∷ q ∷ []) (x ∷ y ∷ []) ≡ p *ℚ x +ℚ q *ℚ y
value_two p q x y = ap (λ a. p *ℚ x +ℚ a) (add_zero (q *ℚ y))

first_value : (x y : ℚ) → dot (one_ℚ ∷ zero_ℚ ∷ []) (x ∷ y ∷ []) ≡ x
first_value x y = value_two one_ℚ zero_ℚ x y ∙ ap₂ (λ a b. a +ℚ b) (one_mul x) (zero_mul y) ∙ add_zero x

second_value : (x y : ℚ) → dot (zero_ℚ ∷ one_ℚ ∷ []) (x ∷ y ∷ []) ≡ y
second_value x y = value_two zero_ℚ one_ℚ x y ∙ ap₂ (λ a b. a +ℚ b) (zero_mul x) (one_mul y) ∙ zero_add y

-- a member, by its two entries
at_two : (P : List ℚ → Type 0) → ((x y : ℚ) → zero_ℚ ≤ℚ x → zero_ℚ ≤ℚ y → P (x ∷ y ∷ [])) → (v : List ℚ) → IsInQuadrant v → P v
at_two P f [] h = absurd (omega (arith, h.wide))
at_two P f (x ∷ []) h = absurd (omega (arith, h.wide))
at_two P f (x ∷ y ∷ z ∷ v) h = absurd (omega (arith, h.wide))
at_two P f (x ∷ y ∷ []) h = f x y h.left h.below

in_two : (x y : ℚ) → zero_ℚ ≤ℚ x → zero_ℚ ≤ℚ y → IsInQuadrant (x ∷ y ∷ [])
in_two x y h k = record { wide = refl; left = h; below = k }

zero_le_one : zero_ℚ ≤ℚ one_ℚ
zero_le_one = le_of_lt zero_ℚ one_ℚ zero_lt_one

-- ---- the cone of the axes
axes_wide : AreWide 2 axes
axes_wide = wide-cons 2 (one_ℚ ∷ zero_ℚ ∷ []) ((zero_ℚ ∷ one_ℚ ∷ []) ∷ []) refl (wide-cons 2 (zero_ℚ ∷ one_ℚ ∷ []) [] refl (wide-nil 2))

quadrant_generated : (v : List ℚ) → IsInQuadrant v → IsGenerated 2 axes v
quadrant_generated v h = at_two (λ w. IsGenerated 2 axes w) of_two v h
  where
    values_of : (r : List ℚ) (x y : ℚ) → dot r (x ∷ y ∷ []) ≡ dot (x ∷ y ∷ []) (values axes r)
    values_of [] x y = sym (value_two x y zero_ℚ zero_ℚ ∙ ap₂ (λ a b. a +ℚ b) (mul_zero x) (mul_zero y) ∙ add_zero zero_ℚ)
    values_of (p ∷ []) x y = Rattle.polyhedra.proofs.Laws.add_comm (p *ℚ x) zero_ℚ ∙ zero_add (p *ℚ x) ∙ Rattle.polyhedra.proofs.Laws.mul_comm p x
        ∙ sym (value_two x y (one_ℚ *ℚ p +ℚ zero_ℚ) (zero_ℚ *ℚ p +ℚ zero_ℚ) ∙ ap₂ (λ a b. x *ℚ a +ℚ y *ℚ b) (add_zero (one_ℚ *ℚ p) ∙ one_mul p)
        (add_zero (zero_ℚ *ℚ p) ∙ zero_mul p) ∙ ap (λ a. x *ℚ p +ℚ a) (mul_zero y) ∙ add_zero (x *ℚ p))
    values_of (p ∷ q ∷ []) x y = value_two p q x y ∙ ap₂ (λ a b. a +ℚ b) (Rattle.polyhedra.proofs.Laws.mul_comm p x) (Rattle.polyhedra.proofs.Laws.mul_comm q y)
        ∙ sym (value_two x y (dot (one_ℚ ∷ zero_ℚ ∷ []) (p ∷ q ∷ [])) (dot (zero_ℚ ∷ one_ℚ ∷ []) (p ∷ q ∷ [])) ∙ ap₂ (λ a b. x *ℚ a +ℚ y *ℚ b)
        (first_value p q) (second_value p q))
    values_of (p ∷ q ∷ s ∷ r) x y = value_two p q x y ∙ ap₂ (λ a b. a +ℚ b) (Rattle.polyhedra.proofs.Laws.mul_comm p x)
        (Rattle.polyhedra.proofs.Laws.mul_comm q y)
        ∙ sym (value_two x y (dot (one_ℚ ∷ zero_ℚ ∷ []) (p ∷ q ∷ [])) (dot (zero_ℚ ∷ one_ℚ ∷ []) (p ∷ q ∷ [])) ∙ ap₂ (λ a b. x *ℚ a +ℚ y *ℚ b)
        (first_value p q) (second_value p q))

    of_two : (x y : ℚ) → zero_ℚ ≤ℚ x → zero_ℚ ≤ℚ y → IsGenerated 2 axes (x ∷ y ∷ [])
    of_two x y a b = generated_by_values 2 axes (x ∷ y ∷ []) (x ∷ y ∷ []) axes_wide refl refl
        (nonneg-cons x (y ∷ []) a (nonneg-cons y [] b nonneg-nil)) (λ r. values_of r x y)

axes_quadrant : (v : List ℚ) → IsGenerated 2 axes v → IsInQuadrant v
axes_quadrant v g = by v (generated_width 2 axes v axes_wide g)
    (generated_nonneg 2 axes (one_ℚ ∷ zero_ℚ ∷ []) v (All-cons (λ a. zero_ℚ ≤ℚ dot (one_ℚ ∷ zero_ℚ ∷ []) a) (one_ℚ ∷ zero_ℚ ∷ [])
    ((zero_ℚ ∷ one_ℚ ∷ []) ∷ []) (le_trans zero_ℚ one_ℚ (dot (one_ℚ ∷ zero_ℚ ∷ []) (one_ℚ ∷ zero_ℚ ∷ [])) zero_le_one
    (le_of_eq one_ℚ (dot (one_ℚ ∷ zero_ℚ ∷ []) (one_ℚ ∷ zero_ℚ ∷ [])) (sym (first_value one_ℚ zero_ℚ))))
    (All-cons (λ a. zero_ℚ ≤ℚ dot (one_ℚ ∷ zero_ℚ ∷ []) a) (zero_ℚ ∷ one_ℚ ∷ []) []
    (le_of_eq zero_ℚ (dot (one_ℚ ∷ zero_ℚ ∷ []) (zero_ℚ ∷ one_ℚ ∷ [])) (sym (first_value zero_ℚ one_ℚ)))
    (All-nil (λ a. zero_ℚ ≤ℚ dot (one_ℚ ∷ zero_ℚ ∷ []) a)))) g)
    (generated_nonneg 2 axes (zero_ℚ ∷ one_ℚ ∷ []) v (All-cons (λ a. zero_ℚ ≤ℚ dot (zero_ℚ ∷ one_ℚ ∷ []) a) (one_ℚ ∷ zero_ℚ ∷ [])
    ((zero_ℚ ∷ one_ℚ ∷ []) ∷ []) (le_of_eq zero_ℚ (dot (zero_ℚ ∷ one_ℚ ∷ []) (one_ℚ ∷ zero_ℚ ∷ [])) (sym (second_value one_ℚ zero_ℚ)))
    (All-cons (λ a. zero_ℚ ≤ℚ dot (zero_ℚ ∷ one_ℚ ∷ []) a) (zero_ℚ ∷ one_ℚ ∷ []) []
    (le_trans zero_ℚ one_ℚ (dot (zero_ℚ ∷ one_ℚ ∷ []) (zero_ℚ ∷ one_ℚ ∷ [])) zero_le_one
    (le_of_eq one_ℚ (dot (zero_ℚ ∷ one_ℚ ∷ []) (zero_ℚ ∷ one_ℚ ∷ [])) (sym (second_value zero_ℚ one_ℚ))))
    (All-nil (λ a. zero_ℚ ≤ℚ dot (zero_ℚ ∷ one_ℚ ∷ []) a)))) g)
  where
    by : (w : List ℚ) → length w ≡ 2 → zero_ℚ ≤ℚ dot (one_ℚ ∷ zero_ℚ ∷ []) w → zero_ℚ ≤ℚ dot (zero_ℚ ∷ one_ℚ ∷ []) w → IsInQuadrant w
    by [] l h k = absurd (omega arith)
    by (x ∷ []) l h k = absurd (omega arith)
    by (x ∷ y ∷ z ∷ w) l h k = absurd (omega arith)
    by (x ∷ y ∷ []) l h k = in_two x y (subst (λ (a : ℚ). zero_ℚ ≤ℚ a) (first_value x y) h) (subst (λ (a : ℚ). zero_ℚ ≤ℚ a) (second_value x y) k)

-- ---- its interior
diagonal_is_interior : IsInterior 2 IsInQuadrant (one_ℚ ∷ one_ℚ ∷ [])
diagonal_is_interior = record { member = in_two one_ℚ one_ℚ zero_le_one zero_le_one; inside = λ w d other. by w d.wide d other }
  where
    by : (w : List ℚ) → length w ≡ 2 → IsInDual 2 IsInQuadrant w → (w ≡ zeros 2 → ⊥) → zero_ℚ <ℚ dot w (one_ℚ ∷ one_ℚ ∷ [])
    by [] l d other = absurd (omega arith)
    by (p ∷ []) l d other = absurd (omega arith)
    by (p ∷ q ∷ r ∷ w) l d other = absurd (omega arith)
    by (p ∷ q ∷ []) l d other = subst (λ (x : ℚ). zero_ℚ <ℚ x) (sym (value_two p q one_ℚ one_ℚ ∙ ap₂ (λ a b. a +ℚ b) (mul_one p) (mul_one q)))
        (go (zero_or_positive p p_nonneg) (zero_or_positive q q_nonneg))
      where
        p_nonneg : zero_ℚ ≤ℚ p
        p_nonneg = subst (λ (x : ℚ). zero_ℚ ≤ℚ x) (dot_comm (p ∷ q ∷ []) (one_ℚ ∷ zero_ℚ ∷ []) ∙ first_value p q)
            (d.within (one_ℚ ∷ zero_ℚ ∷ []) (in_two one_ℚ zero_ℚ zero_le_one (le_refl zero_ℚ)))

        q_nonneg : zero_ℚ ≤ℚ q
        q_nonneg = subst (λ (x : ℚ). zero_ℚ ≤ℚ x) (dot_comm (p ∷ q ∷ []) (zero_ℚ ∷ one_ℚ ∷ []) ∙ second_value p q)
            (d.within (zero_ℚ ∷ one_ℚ ∷ []) (in_two zero_ℚ one_ℚ (le_refl zero_ℚ) zero_le_one))

        go : (p ≡ zero_ℚ) ⊎ (zero_ℚ <ℚ p) → (q ≡ zero_ℚ) ⊎ (zero_ℚ <ℚ q) → zero_ℚ <ℚ p +ℚ q
        go (inr h) k = add_positive p q h q_nonneg
        go (inl h) (inr k) = add_positive_right p q p_nonneg k
        go (inl h) (inl k) = absurd (other (ap₂ (λ a b. a ∷ b ∷ []) h k))

axis_is_border : IsInterior 2 IsInQuadrant (one_ℚ ∷ zero_ℚ ∷ []) → ⊥
axis_is_border h =
    lt_irrefl zero_ℚ (subst (λ (x : ℚ). zero_ℚ <ℚ x) (second_value one_ℚ zero_ℚ)
    (h.inside (zero_ℚ ∷ one_ℚ ∷ [])
    (record {
      wide = refl;
      within = at_two (λ v. zero_ℚ ≤ℚ dot (zero_ℚ ∷ one_ℚ ∷ []) v)
          (λ x y a b. subst (λ (z : ℚ). zero_ℚ ≤ℚ z) (sym (second_value x y)) b);
    })
    (λ e. let f : one_ℚ ≡ zero_ℚ = cc in not_zero_of_positive one_ℚ zero_lt_one f)))

-- ---- the conditions of exactness
cuts : List Inequality
cuts = left_side ∷ lower_side ∷ []

gens : List (List ℚ)
gens = level 2 ∷ homogenised (one_ℚ ∷ zero_ℚ ∷ []) zero_ℚ ∷ homogenised (zero_ℚ ∷ one_ℚ ∷ []) zero_ℚ ∷ []

origin : List (List ℚ)
origin = (zero_ℚ ∷ zero_ℚ ∷ []) ∷ []

quadrant_convex : IsConvex 2 IsInQuadrant IsInQuadrant
quadrant_convex = record {
  wide = λ y h. h.wide;
  directions_wide = λ y h. h.wide;
  mean = λ l a b h k a_in b_in. at_two (λ v. IsInQuadrant (plus (scaled (one_ℚ +ℚ neg_ℚ l) v) (scaled l b)))
      (λ x y p q. at_two (λ v. IsInQuadrant (plus (scaled (one_ℚ +ℚ neg_ℚ l) (x ∷ y ∷ [])) (scaled l v)))
      (λ u w r t. in_two ((one_ℚ +ℚ neg_ℚ l) *ℚ x +ℚ l *ℚ u) ((one_ℚ +ℚ neg_ℚ l) *ℚ y +ℚ l *ℚ w)
      (add_nonneg ((one_ℚ +ℚ neg_ℚ l) *ℚ x) (l *ℚ u) (mul_nonneg (one_ℚ +ℚ neg_ℚ l) x (difference_nonneg l one_ℚ k) p) (mul_nonneg l u h r))
      (add_nonneg ((one_ℚ +ℚ neg_ℚ l) *ℚ y) (l *ℚ w) (mul_nonneg (one_ℚ +ℚ neg_ℚ l) y (difference_nonneg l one_ℚ k) q) (mul_nonneg l w h t))) b b_in) a a_in;
  recedes = both;
  direction_zero = in_two zero_ℚ zero_ℚ (le_refl zero_ℚ) (le_refl zero_ℚ);
  direction_sum = both;
  direction_multiple = λ s d h d_in. at_two (λ v. IsInQuadrant (scaled s v))
      (λ x y p q. in_two (s *ℚ x) (s *ℚ y) (mul_nonneg s x h p) (mul_nonneg s y h q)) d d_in;
}
  where
    both : (a b : List ℚ) → IsInQuadrant a → IsInQuadrant b → IsInQuadrant (plus a b)
    both a b a_in b_in = at_two (λ v. IsInQuadrant (plus v b))
        (λ x y p q. at_two (λ v. IsInQuadrant (plus (x ∷ y ∷ []) v))
        (λ u w r t. in_two (x +ℚ u) (y +ℚ w) (add_nonneg x u p r) (add_nonneg y w q t)) b b_in) a a_in

positive_at : (i : ℕ) → i < 3 → zero_ℚ <ℚ dot (slice_index_or (rows_of 2 cuts) i []) (slice_index_or gens i [])
unfolding cuts gens whole fraction ◌+ℚ◌ ◌*ℚ◌ neg_ℚ le_ℚ gcd
positive_at zero h = refl
positive_at (suc zero) h = refl
positive_at (suc (suc zero)) h = refl
positive_at (suc (suc (suc i))) h = absurd (omega arith)

zero_at : (i j : ℕ) → i < 3 → j < 3 → i ≢ j → is_zero (dot (slice_index_or (rows_of 2 cuts) i []) (slice_index_or gens j [])) ≡ true
unfolding cuts gens whole fraction ◌+ℚ◌ ◌*ℚ◌ neg_ℚ le_ℚ gcd
zero_at zero zero h k e = absurd (e refl)
zero_at zero (suc zero) h k e = refl
zero_at zero (suc (suc zero)) h k e = refl
zero_at zero (suc (suc (suc j))) h k e = absurd (omega arith)
zero_at (suc zero) zero h k e = refl
zero_at (suc zero) (suc zero) h k e = absurd (e refl)
zero_at (suc zero) (suc (suc zero)) h k e = refl
zero_at (suc zero) (suc (suc (suc j))) h k e = absurd (omega arith)
zero_at (suc (suc zero)) zero h k e = refl
zero_at (suc (suc zero)) (suc zero) h k e = refl
zero_at (suc (suc zero)) (suc (suc zero)) h k e = absurd (e refl)
zero_at (suc (suc zero)) (suc (suc (suc j))) h k e = absurd (omega arith)
zero_at (suc (suc (suc i))) j h k e = absurd (omega arith)

quadrant_corners : AreCorners 3 (rows_of 2 cuts) gens
unfolding cuts gens
quadrant_corners = record {
  rows_wide = wide-cons 3 _ _ refl (wide-cons 3 _ _ refl (wide-cons 3 _ _ refl (wide-nil 3)));
  vectors_wide = wide-cons 3 _ _ refl (wide-cons 3 _ _ refl (wide-cons 3 _ _ refl (wide-nil 3)));
  rows_many = refl;
  vectors_many = refl;
  positive = positive_at;
  zero_elsewhere = λ i j h k e. zero_of_test (dot (slice_index_or (rows_of 2 cuts) i []) (slice_index_or gens j [])) (zero_at i j h k e);
}

left_valid : IsValidAt 2 IsInQuadrant c left_side
unfolding c
left_valid = record {
  valid = record {
    wide = refl;
    holds = at_two (λ v. zero_ℚ ≤ℚ dot (one_ℚ ∷ zero_ℚ ∷ []) v)
        (λ x y p q. subst (λ (z : ℚ). zero_ℚ ≤ℚ z) (sym (first_value x y)) p);
  };
  normed = first_value one_ℚ one_ℚ;
}

lower_valid : IsValidAt 2 IsInQuadrant c lower_side
unfolding c
lower_valid = record {
  valid = record {
    wide = refl;
    holds = at_two (λ v. zero_ℚ ≤ℚ dot (zero_ℚ ∷ one_ℚ ∷ []) v)
        (λ x y p q. subst (λ (z : ℚ). zero_ℚ ≤ℚ z) (sym (second_value x y)) q);
  };
  normed = second_value one_ℚ one_ℚ;
}

-- row i is tight at generator j other than i, and not at generator i
module _ (i j : ℕ) (i_in : i < 3) (j_in : j < 3) (other : i ≢ j) where
  not_within : TightLiesIn gens (slice_index_or (rows_of 2 cuts) i []) (slice_index_or (rows_of 2 cuts) j []) → ⊥
  unfolding gens
  not_within h = not_zero_of_positive (dot (slice_index_or (rows_of 2 cuts) j []) (slice_index_or gens j [])) (positive_at j j_in)
      (h j [] j_in (zero_of_test (dot (slice_index_or (rows_of 2 cuts) i []) (slice_index_or gens j [])) (zero_at i j i_in j_in other)))

quadrant_names : All (IsNamed 2 cuts gens) cuts
unfolding cuts
quadrant_names = All-cons (IsNamed 2 cuts gens) left_side (lower_side ∷ [])
    (record {
      cut = Contains-here left_side (lower_side ∷ []) left_side refl;
      touches = not_within 1 0 (omega arith) (omega arith) (omega arith);
      largest = All-cons (Largest left_side) (level 2) (row_of left_side ∷ row_of lower_side ∷ [])
          (λ h. absurd (not_within 1 0 (omega arith) (omega arith) (omega arith) h))
          (All-cons (Largest left_side) (row_of left_side) (row_of lower_side ∷ []) (λ h. h)
          (All-cons (Largest left_side) (row_of lower_side) [] (λ h. absurd (not_within 1 2 (omega arith) (omega arith) (omega arith) h))
          (All-nil (Largest left_side))));
    })
    (All-cons (IsNamed 2 cuts gens) lower_side []
    (record {
      cut = Contains-there left_side (lower_side ∷ []) lower_side (Contains-here lower_side [] lower_side refl);
      touches = not_within 2 0 (omega arith) (omega arith) (omega arith);
      largest = All-cons (Largest lower_side) (level 2) (row_of left_side ∷ row_of lower_side ∷ [])
          (λ h. absurd (not_within 2 0 (omega arith) (omega arith) (omega arith) h))
          (All-cons (Largest lower_side) (row_of left_side) (row_of lower_side ∷ []) (λ h. absurd (not_within 2 1 (omega arith) (omega arith) (omega arith) h))
          (All-cons (Largest lower_side) (row_of lower_side) [] (λ h. h) (All-nil (Largest lower_side))));
    })
    (All-nil (IsNamed 2 cuts gens)))
  where
    Largest : Inequality → List ℚ → Type 0
    Largest e row = TightLiesIn gens (row_of e) row → TightLiesIn gens row (row_of e)

normed_first : IsNormedDirection (one_ℚ ∷ zero_ℚ ∷ [])
unfolding whole le_ℚ
normed_first = refl

normed_second : IsNormedDirection (zero_ℚ ∷ one_ℚ ∷ [])
unfolding whole le_ℚ
normed_second = refl

normed_diagonal : IsNormedDirection (one_ℚ ∷ one_ℚ ∷ [])
unfolding whole le_ℚ
normed_diagonal = refl

quadrant_enclosed : IsEnclosed 2 IsInQuadrant IsInQuadrant c cuts gens origin axes
unfolding c cuts gens origin
quadrant_enclosed = record {
  convex = quadrant_convex;
  c_wide = refl;
  cuts_valid = All-cons Valid left_side (lower_side ∷ []) left_valid (All-cons Valid lower_side [] lower_valid (All-nil Valid));
  described = start 3 (rows_of 2 cuts) gens quadrant_corners;
  each = All-cons One (level 2) (homogenised (one_ℚ ∷ zero_ℚ ∷ []) zero_ℚ ∷ homogenised (zero_ℚ ∷ one_ℚ ∷ []) zero_ℚ ∷ [])
      (inl (zero_ℚ ∷ zero_ℚ ∷ [], Contains-here (zero_ℚ ∷ zero_ℚ ∷ []) [] (zero_ℚ ∷ zero_ℚ ∷ []) refl, refl))
      (All-cons One (homogenised (one_ℚ ∷ zero_ℚ ∷ []) zero_ℚ) (homogenised (zero_ℚ ∷ one_ℚ ∷ []) zero_ℚ ∷ []) (inr (one_ℚ ∷ zero_ℚ ∷ [], first_listed, refl))
      (All-cons One (homogenised (zero_ℚ ∷ one_ℚ ∷ []) zero_ℚ) [] (inr (zero_ℚ ∷ one_ℚ ∷ [], second_listed, refl)) (All-nil One)));
  point_listed = All-cons (λ y. Contains gens (homogenised y one_ℚ)) (zero_ℚ ∷ zero_ℚ ∷ []) [] (0, (omega arith), refl)
      (All-nil (λ y. Contains gens (homogenised y one_ℚ)));
  direction_listed = All-cons (λ y. Contains gens (homogenised y zero_ℚ)) (one_ℚ ∷ zero_ℚ ∷ []) ((zero_ℚ ∷ one_ℚ ∷ []) ∷ []) (1, (omega arith), refl)
      (All-cons (λ y. Contains gens (homogenised y zero_ℚ)) (zero_ℚ ∷ one_ℚ ∷ []) [] (2, (omega arith), refl) (All-nil (λ y. Contains gens (homogenised y zero_ℚ))));
  points_in = All-cons IsInQuadrant (zero_ℚ ∷ zero_ℚ ∷ []) [] (in_two zero_ℚ zero_ℚ (le_refl zero_ℚ) (le_refl zero_ℚ)) (All-nil IsInQuadrant);
  directions_in = All-cons IsInQuadrant (one_ℚ ∷ zero_ℚ ∷ []) ((zero_ℚ ∷ one_ℚ ∷ []) ∷ []) (in_two one_ℚ zero_ℚ zero_le_one (le_refl zero_ℚ))
      (All-cons IsInQuadrant (zero_ℚ ∷ one_ℚ ∷ []) [] (in_two zero_ℚ one_ℚ (le_refl zero_ℚ) zero_le_one) (All-nil IsInQuadrant));
  directions_normed = All-cons IsNormedDirection (one_ℚ ∷ zero_ℚ ∷ []) ((zero_ℚ ∷ one_ℚ ∷ []) ∷ []) normed_first
      (All-cons IsNormedDirection (zero_ℚ ∷ one_ℚ ∷ []) [] normed_second (All-nil IsNormedDirection));
}
  where
    Valid : Inequality → Type 0
    Valid e = IsValidAt 2 IsInQuadrant c e

    One : List ℚ → Type 0
    One g = IsOneOf origin axes g

    first_listed : Contains axes (one_ℚ ∷ zero_ℚ ∷ [])
    first_listed = Contains-here (one_ℚ ∷ zero_ℚ ∷ []) ((zero_ℚ ∷ one_ℚ ∷ []) ∷ []) (one_ℚ ∷ zero_ℚ ∷ []) refl

    second_listed : Contains axes (zero_ℚ ∷ one_ℚ ∷ [])
    second_listed = Contains-there (one_ℚ ∷ zero_ℚ ∷ []) ((zero_ℚ ∷ one_ℚ ∷ []) ∷ []) (zero_ℚ ∷ one_ℚ ∷ [])
        (Contains-here (zero_ℚ ∷ one_ℚ ∷ []) [] (zero_ℚ ∷ one_ℚ ∷ []) refl)

quadrant_solved : IsSolved 2 IsInQuadrant IsInQuadrant c cuts gens origin axes cuts
unfolding c cuts gens origin
quadrant_solved = record {
  enclosed = quadrant_enclosed;
  names = quadrant_names;
  accounted = All-cons Accounted left_side (lower_side ∷ [])
      (record { within = inr (left_side, Contains-here left_side (lower_side ∷ []) left_side refl, λ k d h e. e) })
      (All-cons Accounted lower_side [] (record {
        within = inr
            (lower_side, Contains-there left_side (lower_side ∷ []) lower_side (Contains-here lower_side [] lower_side refl), λ k d h e. e);
      })
      (All-nil Accounted));
}
  where
    Accounted : Inequality → Type 0
    Accounted e = IsAccounted 2 cuts gens e

axis_is_extreme : IsExtremeDirection 2 IsInQuadrant (one_ℚ ∷ zero_ℚ ∷ [])
axis_is_extreme = (listed_is_extreme 2 IsInQuadrant IsInQuadrant c cuts gens origin axes quadrant_enclosed (one_ℚ ∷ zero_ℚ ∷ [])
    (Contains-here (one_ℚ ∷ zero_ℚ ∷ []) ((zero_ℚ ∷ one_ℚ ∷ []) ∷ []) (one_ℚ ∷ zero_ℚ ∷ []) refl)).0

diagonal_is_none : IsExtremeDirection 2 IsInQuadrant (one_ℚ ∷ one_ℚ ∷ []) → ⊥
diagonal_is_none h = by (Contains-cases (one_ℚ ∷ zero_ℚ ∷ []) ((zero_ℚ ∷ one_ℚ ∷ []) ∷ []) (one_ℚ ∷ one_ℚ ∷ [])
    (extreme_is_listed 2 IsInQuadrant IsInQuadrant c cuts gens origin axes quadrant_enclosed (one_ℚ ∷ one_ℚ ∷ []) h normed_diagonal))
  where
    last : (zero_ℚ ∷ one_ℚ ∷ [] ≡ one_ℚ ∷ one_ℚ ∷ []) ⊎ Contains [] (one_ℚ ∷ one_ℚ ∷ []) → ⊥
    last (inl e) = let f : one_ℚ ≡ zero_ℚ = cc in not_zero_of_positive one_ℚ zero_lt_one f
    last (inr k) = Contains-nil (one_ℚ ∷ one_ℚ ∷ []) k

    by : (one_ℚ ∷ zero_ℚ ∷ [] ≡ one_ℚ ∷ one_ℚ ∷ []) ⊎ Contains ((zero_ℚ ∷ one_ℚ ∷ []) ∷ []) (one_ℚ ∷ one_ℚ ∷ []) → ⊥
    by (inl e) = let f : one_ℚ ≡ zero_ℚ = cc in not_zero_of_positive one_ℚ zero_lt_one f
    by (inr k) = last (Contains-cases (zero_ℚ ∷ one_ℚ ∷ []) [] (one_ℚ ∷ one_ℚ ∷ []) k)

pub quadrant_example : QuadrantExample
unfolding c cuts gens origin
quadrant_example = record {
  generated = quadrant_generated;
  generates = axes_quadrant;
  axis = axis_is_extreme;
  diagonal = diagonal_is_none;
  interior = diagonal_is_interior;
  border = axis_is_border;
  solved = quadrant_solved;
}
