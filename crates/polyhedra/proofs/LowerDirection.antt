-- The lower image goes on for ever in one direction alone, that in which the bound falls.
use Rattle.std.proofs.Common.{◌≡◌, ℕ, zero, suc, List, [], ◌∷◌, length, refl, sym, ap, ap₂, ◌∙◌, subst, ◌⊎◌, inl, inr, pos, true, false, cond, Bool}
use Rattle.exact_field.specs.Rational.{ℚ, zero_ℚ, one_ℚ, whole, ◌+ℚ◌, ◌*ℚ◌, neg_ℚ, inverse_ℚ, le_ℚ, ◌≤ℚ◌, ◌<ℚ◌}
use Rattle.exact_field.specs.Vector.{dot}
use Rattle.exact_field.specs.Ring.{v0, v1, v2, v3, ◌⊕◌, ◌⊗◌, ◌⊝◌, ⊖, num}
use Rattle.exact_field.proofs.RingTool.{ring}
use Rattle.exact_field.proofs.Rationals.{rationals}
use Rattle.polyhedra.specs.Vectors.{zeros, plus, scaled}
use Rattle.polyhedra.specs.Cone.{IsInterior}
use Rattle.polyhedra.specs.DoubleDescription.{is_zero, magnitude, leading}
use Rattle.polyhedra.specs.Hull.{IsConvex, IsMultiple, IsExtremeDirection, IsNormedDirection, IsValid}
use Rattle.polyhedra.specs.Exactness.{homogenised}
use Rattle.polyhedra.specs.LowerImage.{completed, IsInLowerImage, IsRecession, OneLowerDirection}
use Rattle.polyhedra.proofs.Laws.{add_comm, add_zero, add_neg, mul_one, mul_comm, le_refl, le_trans, le_of_lt, mul_nonneg, zero_lt_one}
use Rattle.polyhedra.proofs.Algebra.{mul_zero, neg_neg, neg_zero}
use Rattle.polyhedra.proofs.Order.{le_or_lt, lt_irrefl, not_lt_of_le, lt_of_difference, difference_nonneg, add_positive_right, inverse_positive, mul_inverse_cancel, mul_positive, not_zero_of_positive, add_le_both, mul_le, le_of_difference}
use Rattle.polyhedra.proofs.Linear.{dot_comm, dot-plus, dot-plus_left, dot-scaled, dot-scaled_left, dot-zeros, length-plus, length-scaled, length-zeros, same_wide}
use Rattle.polyhedra.proofs.TightRows.{same_vector_or_not}
use Rattle.polyhedra.proofs.Homogenised.{length-homogenised, dot-homogenised, plus-homogenised, scaled-homogenised, zeros-homogenised, homogenised-same, IsHomogenised, unhomogenised}
use Rattle.polyhedra.proofs.ConvexSets.{direction_value}
use Rattle.polyhedra.proofs.Tests.{test_of_zero, zero_of_test}

-- a line that stays above another for ever does not fall from it
steady : (a b g e : ℚ) → ((s : ℚ) → zero_ℚ ≤ℚ s → g +ℚ s *ℚ e ≤ℚ a +ℚ s *ℚ b) → e ≤ℚ b
steady a b g e h = go (le_or_lt e b)
  where
    gap : ℚ
    gap = e +ℚ neg_ℚ b

    room : ℚ
    room = (a +ℚ neg_ℚ g) +ℚ one_ℚ

    start : g ≤ℚ a
    start = subst (λ (x : ℚ). x ≤ℚ a) (ring rationals (g ∷ e ∷ []) (v0 ⊕ num (pos 0) ⊗ v1) v0 refl)
        (subst (λ (x : ℚ). g +ℚ zero_ℚ *ℚ e ≤ℚ x) (ring rationals (a ∷ b ∷ []) (v0 ⊕ num (pos 0) ⊗ v1) v0 refl) (h zero_ℚ (le_refl zero_ℚ)))

    room_positive : zero_ℚ <ℚ room
    room_positive = add_positive_right (a +ℚ neg_ℚ g) one_ℚ (difference_nonneg g a start) zero_lt_one

    falls : b <ℚ e → ⊥
    falls p =
        let gap_positive : zero_ℚ <ℚ gap = Rattle.exact_field.proofs.Inequalities.difference_from_lt b e p in
        let s : ℚ = inverse_ℚ gap *ℚ room in
        let s_nonneg : zero_ℚ ≤ℚ s = le_of_lt zero_ℚ s (mul_positive (inverse_ℚ gap) room (inverse_positive gap gap_positive) room_positive) in
        let far : (a +ℚ s *ℚ b) +ℚ one_ℚ ≡ g +ℚ s *ℚ e =
        sym (ring rationals (g ∷ s ∷ e ∷ b ∷ []) (v0 ⊕ v1 ⊗ v2) (v0 ⊕ ((v2 ⊝ v3) ⊗ v1 ⊕ v1 ⊗ v3)) refl
        ∙ ap (λ x. g +ℚ (x +ℚ s *ℚ b)) (mul_inverse_cancel gap room gap_positive)
        ∙ ring rationals (g ∷ a ∷ s *ℚ b ∷ []) (v0 ⊕ (((v1 ⊝ v0) ⊕ num (pos 1)) ⊕ v2)) ((v1 ⊕ v2) ⊕ num (pos 1)) refl) in
        not_lt_of_le (g +ℚ s *ℚ e) (a +ℚ s *ℚ b) (h s s_nonneg) (lt_of_difference (a +ℚ s *ℚ b) (g +ℚ s *ℚ e) one_ℚ zero_lt_one far)

    go : (e ≤ℚ b) ⊎ (b <ℚ e) → e ≤ℚ b
    go (inl p) = p
    go (inr p) = absurd (falls p)

leading-zeros : (n : ℕ) (t : ℚ) → leading (homogenised (zeros n) t) ≡ t
leading-zeros zero t = go (is_zero t) refl
  where
    go : (b : Bool) → is_zero t ≡ b → cond b zero_ℚ t ≡ t
    go true e = sym (zero_of_test t e)
    go false e = refl
leading-zeros (suc n) t = ap (λ b. cond b (leading (homogenised (zeros n) t)) zero_ℚ) (test_of_zero zero_ℚ refl) ∙ leading-zeros n t

minus_one_negative : le_ℚ zero_ℚ (neg_ℚ one_ℚ) ≡ false
unfolding whole neg_ℚ le_ℚ
minus_one_negative = refl

magnitude_minus_one : magnitude (neg_ℚ one_ℚ) ≡ one_ℚ
magnitude_minus_one = ap (λ b. cond b (neg_ℚ one_ℚ) (neg_ℚ (neg_ℚ one_ℚ))) minus_one_negative ∙ neg_neg one_ℚ

minus_one_below : neg_ℚ one_ℚ ≤ℚ zero_ℚ
minus_one_below = le_of_difference (neg_ℚ one_ℚ) zero_ℚ one_ℚ (le_of_lt zero_ℚ one_ℚ zero_lt_one) (add_comm (neg_ℚ one_ℚ) one_ℚ ∙ add_neg one_ℚ)

-- a number of at most 0 with the magnitude 1 is -1
minus_one_from : (t : ℚ) → t ≤ℚ zero_ℚ → magnitude t ≡ one_ℚ → t ≡ neg_ℚ one_ℚ
minus_one_from t h e = go (le_ℚ zero_ℚ t) refl
  where
    go : (b : Bool) → le_ℚ zero_ℚ t ≡ b → t ≡ neg_ℚ one_ℚ
    go false k = sym (neg_neg t) ∙ ap neg_ℚ (sym (ap (λ b. cond b t (neg_ℚ t)) k) ∙ e)
    go true k = absurd (not_zero_of_positive one_ℚ zero_lt_one (sym e ∙ ap (λ b. cond b t (neg_ℚ t)) k ∙ Rattle.polyhedra.proofs.Laws.le_antisymm t zero_ℚ h k))

module _ (Set Directions : List ℚ → Type 0) (n : ℕ) (c y v : List ℚ) (convex : IsConvex (suc n) Set Directions) (c_wide : length c ≡ n)
    (interior : IsInterior (suc n) Directions (homogenised c one_ℚ)) (y_in : Set y) (v_in : IsInLowerImage n Set c v) where
  Lower : List ℚ → Type 0
  Lower u = IsInLowerImage n Set c u

  -- the normal by which a direction changes that of an inequality
  slope : List ℚ → List ℚ
  slope p = homogenised p (neg_ℚ (dot c p))

  slope_width : (p : List ℚ) → length p ≡ n → length (slope p) ≡ suc n
  unfolding slope
  slope_width p h = length-homogenised n p (neg_ℚ (dot c p)) h

  moved_normal : (w p : List ℚ) (s : ℚ) → length w ≡ n → length p ≡ n → (x : List ℚ) →
      dot (homogenised (plus w (scaled s p)) (one_ℚ +ℚ neg_ℚ (dot c (plus w (scaled s p))))) x ≡ dot (homogenised w (one_ℚ +ℚ neg_ℚ (dot c w))) x +ℚ s *ℚ dot (slope p) x
  unfolding slope
  moved_normal w p s h k x =
      ap (λ u. dot u x)
      (ap (λ t. homogenised (plus w (scaled s p)) t)
      (ap (λ t. one_ℚ +ℚ neg_ℚ t) (dot-plus c w (scaled s p) ∙ ap (λ t. dot c w +ℚ t) (dot-scaled c s p))
      ∙ ring rationals (dot c w ∷ s ∷ dot c p ∷ []) (num (pos 1) ⊝ (v0 ⊕ v1 ⊗ v2)) ((num (pos 1) ⊝ v0) ⊕ v1 ⊗ ⊖ v2) refl)
      ∙ sym (plus-homogenised w (scaled s p) (one_ℚ +ℚ neg_ℚ (dot c w)) (s *ℚ neg_ℚ (dot c p)) (h ∙ sym (length-scaled s p ∙ k)))
      ∙ ap (λ u. plus (homogenised w (one_ℚ +ℚ neg_ℚ (dot c w))) u) (sym (scaled-homogenised s p (neg_ℚ (dot c p)))))
      ∙ dot-plus_left (homogenised w (one_ℚ +ℚ neg_ℚ (dot c w))) (scaled s (homogenised p (neg_ℚ (dot c p)))) x
      ∙ ap (λ t. dot (homogenised w (one_ℚ +ℚ neg_ℚ (dot c w))) x +ℚ t) (dot-scaled_left s (homogenised p (neg_ℚ (dot c p))) x)

  -- a direction's slope is a valid normal with its last entry as bound
  slope_valid : (p : List ℚ) (e : ℚ) → length p ≡ n → IsRecession (suc n) (IsInLowerImage n Set c) (homogenised p e) → IsValid (suc n) Set
      (record { normal = slope p; bound = e })
  slope_valid p e p_wide h = record {
    wide = slope_width p p_wide;
    holds = λ x x_in. steady (dot (homogenised v_in.front (one_ℚ +ℚ neg_ℚ (dot c v_in.front))) x) (dot (slope p) x) v_in.bound e
        (λ s s_nonneg. at x x_in s (h.leads v s v_in s_nonneg));
  }
    where
      at : (x : List ℚ) → Set x → (s : ℚ) → IsInLowerImage n Set c (plus v (scaled s (homogenised p e))) →
          v_in.bound +ℚ s *ℚ e ≤ℚ dot (homogenised v_in.front (one_ℚ +ℚ neg_ℚ (dot c v_in.front))) x +ℚ s *ℚ dot (slope p) x
      at x x_in s u =
          let same : (plus v_in.front (scaled s p) ≡ u.front) × (v_in.bound +ℚ s *ℚ e ≡ u.bound) =
          homogenised-same (plus v_in.front (scaled s p)) u.front (v_in.bound +ℚ s *ℚ e) u.bound
          (sym (plus-homogenised v_in.front (scaled s p) v_in.bound (s *ℚ e) (v_in.wide ∙ sym (length-scaled s p ∙ p_wide)))
          ∙ ap₂ (λ a b. plus a b) (sym v_in.same) (sym (scaled-homogenised s p e)) ∙ u.same) in
          subst (λ (q : ℚ). v_in.bound +ℚ s *ℚ e ≤ℚ q) (moved_normal v_in.front p s v_in.wide p_wide x)
          (subst (λ (w : List ℚ). v_in.bound +ℚ s *ℚ e ≤ℚ dot (homogenised w (one_ℚ +ℚ neg_ℚ (dot c w))) x) (sym same.0)
          (subst (λ (q : ℚ). q ≤ℚ dot (homogenised u.front (one_ℚ +ℚ neg_ℚ (dot c u.front))) x) (sym same.1) (u.valid.holds x x_in)))

  slope_at_c : (p : List ℚ) → length p ≡ n → dot (slope p) (homogenised c one_ℚ) ≡ zero_ℚ
  unfolding slope
  slope_at_c p h = dot-homogenised p c (neg_ℚ (dot c p)) one_ℚ (h ∙ sym c_wide) ∙ ap₂ (λ a b. a +ℚ b) (dot_comm p c) (mul_one (neg_ℚ (dot c p))) ∙ add_neg (dot c p)

  -- a direction of the lower image changes the bound alone, downwards
  direction_shape : (d : List ℚ) → IsRecession (suc n) (IsInLowerImage n Set c) d → (t : ℚ) × (t ≤ℚ zero_ℚ) × (d ≡ homogenised (zeros n) t)
  unfolding slope
  direction_shape d h = by (unhomogenised n d h.wide)
    where
      by : IsHomogenised n d → (t : ℚ) × (t ≤ℚ zero_ℚ) × (d ≡ homogenised (zeros n) t)
      by u = go (same_vector_or_not (slope u.front) (zeros (suc n)))
        where
          valid : IsValid (suc n) Set (record { normal = slope u.front; bound = u.last })
          valid = slope_valid u.front u.last u.wide (subst (λ (w : List ℚ). IsRecession (suc n) (IsInLowerImage n Set c) w) u.same h)

          go : (slope u.front ≡ zeros (suc n)) ⊎ (slope u.front ≡ zeros (suc n) → ⊥) → (t : ℚ) × (t ≤ℚ zero_ℚ) × (d ≡ homogenised (zeros n) t)
          go (inr other) = absurd (lt_irrefl zero_ℚ (subst (λ (x : ℚ). zero_ℚ <ℚ x) (slope_at_c u.front u.wide)
              (interior.inside (slope u.front)
              (record {
                wide = slope_width u.front u.wide;
                within = λ r r_in. direction_value (suc n) Set Directions convex
                    (record { normal = slope u.front; bound = u.last }) y r valid y_in r_in;
              }) other)))
          go (inl e) = (
            u.last,
            subst (λ (x : ℚ). u.last ≤ℚ x) (ap (λ w. dot w y) e ∙ dot_comm (zeros (suc n)) y ∙ dot-zeros y (suc n)) (valid.holds y y_in),
            u.same ∙ ap (λ w. homogenised w u.last) (homogenised-same u.front (zeros n) (neg_ℚ (dot c u.front)) zero_ℚ (e ∙ zeros-homogenised n)).0,
          )

  -- each fall of the bound is a direction
  falling : (t : ℚ) → t ≤ℚ zero_ℚ → IsRecession (suc n) (IsInLowerImage n Set c) (homogenised (zeros n) t)
  falling t h = record {
    wide = length-homogenised n (zeros n) t (length-zeros n);
    leads = λ u s u_in s_nonneg.
        let front : plus u_in.front (scaled s (zeros n)) ≡ u_in.front =
        same_wide n (plus u_in.front (scaled s (zeros n))) u_in.front
        (length-plus n u_in.front (scaled s (zeros n)) u_in.wide (length-scaled s (zeros n) ∙ length-zeros n)) u_in.wide
        (λ r. dot-plus r u_in.front (scaled s (zeros n)) ∙ ap (λ x. dot r u_in.front +ℚ x) (dot-scaled r s (zeros n)
        ∙ ap (λ x. s *ℚ x) (dot-zeros r n) ∙ mul_zero s) ∙ add_zero (dot r u_in.front)) in
        record {
          front = u_in.front;
          bound = u_in.bound +ℚ s *ℚ t;
          wide = u_in.wide;
          same = ap₂ (λ a b. plus a b) u_in.same (scaled-homogenised s (zeros n) t)
              ∙ plus-homogenised u_in.front (scaled s (zeros n)) u_in.bound (s *ℚ t) (u_in.wide ∙ sym (length-scaled s (zeros n) ∙ length-zeros n))
              ∙ ap (λ w. homogenised w (u_in.bound +ℚ s *ℚ t)) front;
          valid = record {
            wide = u_in.valid.wide;
            holds = λ x x_in. le_trans (u_in.bound +ℚ s *ℚ t) u_in.bound (dot (completed c u_in.front u_in.bound).normal x)
                (lower u_in.bound s s_nonneg) (u_in.valid.holds x x_in);
          };
        };
  }
    where
      lower : (b s : ℚ) → zero_ℚ ≤ℚ s → b +ℚ s *ℚ t ≤ℚ b
      lower b s k = subst (λ (x : ℚ). b +ℚ s *ℚ t ≤ℚ x) (add_zero b)
          (add_le_both b b (s *ℚ t) zero_ℚ (le_refl b) (subst (λ (x : ℚ). s *ℚ t ≤ℚ x) (mul_zero s) (mul_le s t zero_ℚ k h)))

  to_falling : (d : List ℚ) → IsExtremeDirection (suc n) (IsRecession (suc n) (IsInLowerImage n Set c)) d → IsNormedDirection d → d ≡ homogenised
      (zeros n) (neg_ℚ one_ℚ)
  to_falling d extreme normed =
      let s : (t : ℚ) × (t ≤ℚ zero_ℚ) × (d ≡ homogenised (zeros n) t) = direction_shape d extreme.member in
      s.2 ∙ ap (λ t. homogenised (zeros n) t) (minus_one_from s.0 s.1 (ap magnitude (sym (leading-zeros n s.0)) ∙ ap (λ w. magnitude (leading w)) (sym s.2)
      ∙ normed))

  falling_extreme : IsExtremeDirection (suc n) (IsRecession (suc n) (IsInLowerImage n Set c)) (homogenised (zeros n) (neg_ℚ one_ℚ))
  falling_extreme = record {
    member = falling (neg_ℚ one_ℚ) minus_one_below;
    not_zero = λ e. not_zero_of_positive one_ℚ zero_lt_one (sym (neg_neg one_ℚ)
        ∙ ap neg_ℚ (homogenised-same (zeros n) (zeros n) (neg_ℚ one_ℚ) zero_ℚ (e ∙ zeros-homogenised n)).1 ∙ neg_zero);
    no_sum = λ a b a_in b_in e. (multiple a (direction_shape a a_in), multiple b (direction_shape b b_in));
  }
    where
      multiple : (a : List ℚ) → ((t : ℚ) × (t ≤ℚ zero_ℚ) × (a ≡ homogenised (zeros n) t)) → IsMultiple (homogenised (zeros n) (neg_ℚ one_ℚ)) a
      multiple a (t, h, e) = record {
        factor = neg_ℚ t;
        same = e ∙ sym (scaled-homogenised (neg_ℚ t) (zeros n) (neg_ℚ one_ℚ)
            ∙ ap₂ (λ p q. homogenised p q)
            (same_wide n (scaled (neg_ℚ t) (zeros n)) (zeros n) (length-scaled (neg_ℚ t) (zeros n) ∙ length-zeros n) (length-zeros n)
            (λ r. dot-scaled r (neg_ℚ t) (zeros n) ∙ ap (λ x. neg_ℚ t *ℚ x) (dot-zeros r n) ∙ mul_zero (neg_ℚ t) ∙ sym (dot-zeros r n)))
            (ring rationals (t ∷ []) (⊖ v0 ⊗ ⊖ (num (pos 1))) v0 refl));
      }

  falling_normed : IsNormedDirection (homogenised (zeros n) (neg_ℚ one_ℚ))
  falling_normed = ap magnitude (leading-zeros n (neg_ℚ one_ℚ)) ∙ magnitude_minus_one

pub one_lower_direction : (Set Directions : List ℚ → Type 0) → OneLowerDirection Set Directions
one_lower_direction Set Directions n c y v convex c_wide interior y_in v_in d = (
  λ h. to_falling Set Directions n c y v convex c_wide interior y_in v_in d h.0 h.1,
  λ e. (
    subst (λ (w : List ℚ). IsExtremeDirection (suc n) (IsRecession (suc n) (IsInLowerImage n Set c)) w) (sym e)
        (falling_extreme Set Directions n c y v convex c_wide interior y_in v_in),
    subst (λ (w : List ℚ). IsNormedDirection w) (sym e) (falling_normed Set Directions n c y v convex c_wide interior y_in v_in),
  ),
)
