-- The set of the negatives: turning every sign, or that of the last entry, undoes itself and is linear.
use Rattle.std.proofs.Common.{◌≡◌, ℕ, zero, suc, List, [], ◌∷◌, ◌++◌, refl, sym, ap, ap₂, ◌∙◌, subst, map, cond, Bool, true, false, length, arith}
use Rattle.std.proofs.lemmas.List.{length-map}
use Rattle.exact_field.specs.Rational.{ℚ, zero_ℚ, one_ℚ, ◌+ℚ◌, neg_ℚ, le_ℚ, ◌≤ℚ◌, ◌<ℚ◌, ◌*ℚ◌}
use Rattle.exact_field.specs.Vector.{dot}
use Rattle.exact_field.specs.Ring.{v0, v1, ◌⊕◌, ◌⊝◌, ⊖, ◌⊗◌}
use Rattle.polyhedra.proofs.Order.{Sign, negative, none, positive, neg_positive, negative_of_neg, sign_of}
use Rattle.polyhedra.specs.Vectors.{zeros, plus, scaled, combination, values}
use Rattle.polyhedra.specs.DoubleDescription.{is_zero, magnitude, leading}
use Rattle.polyhedra.specs.Inequality.{Inequality}
use Rattle.polyhedra.specs.Hull.{IsInHull, IsVertex, IsExtremeDirection, IsValidAt, IsFacet}
use Rattle.polyhedra.specs.LowerImage.{completed, IsInLowerImage, IsRecession}
use Rattle.polyhedra.specs.Negatives.{negated, Negatives, mirrored, IsValidAbove, IsFacetAbove, IsInLowerImageAbove, OfNegatives, LowerOfNegatives}
use Rattle.polyhedra.proofs.Algebra.{neg_add, mul_neg, neg_neg, neg_zero}
use Rattle.polyhedra.proofs.Order.{Sign, negative, none, positive, sign_of, not_lt_of_le, le_of_difference, difference_nonneg, neg_positive, negative_of_neg}
use Rattle.polyhedra.proofs.Tests.{same_tests, test_of_zero, zero_of_test}
use Rattle.polyhedra.proofs.Involutions.{vertex_turned, recession_turned, extreme_turned}
use Rattle.polyhedra.proofs.Homogenised.{length-homogenised}
use Rattle.exact_field.proofs.RingTool.{ring}
use Rattle.exact_field.proofs.Rationals.{rationals}
use Rattle.polyhedra.proofs.Laws.{le_of_lt}
use Rattle.polyhedra.proofs.Linear.{dot_comm}

-- ---- all signs
negated-plus : (u v : List ℚ) → negated (plus u v) ≡ plus (negated u) (negated v)
negated-plus [] v = refl
negated-plus (x ∷ u) [] = refl
negated-plus (x ∷ u) (y ∷ v) = ap₂ (λ a b. a ∷ b) (neg_add x y) (negated-plus u v)

negated-scaled : (c : ℚ) (v : List ℚ) → negated (scaled c v) ≡ scaled c (negated v)
negated-scaled c [] = refl
negated-scaled c (x ∷ v) = ap₂ (λ a b. a ∷ b) (sym (mul_neg c x)) (negated-scaled c v)

pub negated_twice : (v : List ℚ) → negated (negated v) ≡ v
negated_twice [] = refl
negated_twice (x ∷ v) = ap₂ (λ a b. a ∷ b) (neg_neg x) (negated_twice v)

pub negated-zeros : (n : ℕ) → negated (zeros n) ≡ zeros n
negated-zeros zero = refl
negated-zeros (suc n) = ap₂ (λ a b. a ∷ b) neg_zero (negated-zeros n)

pub dot-negated : (r v : List ℚ) → dot r (negated v) ≡ neg_ℚ (dot r v)
dot-negated [] v = sym neg_zero
dot-negated (r ∷ rs) [] = sym neg_zero
dot-negated (r ∷ rs) (x ∷ v) = ap₂ (λ a b. a +ℚ b) (mul_neg r x) (dot-negated rs v) ∙ sym (neg_add (r *ℚ x) (dot rs v))

pub dot-negated_left : (v z : List ℚ) → dot (negated v) z ≡ neg_ℚ (dot v z)
dot-negated_left v z = dot_comm (negated v) z ∙ dot-negated z v ∙ ap neg_ℚ (dot_comm z v)

pub negated_values : (ms : List ℚ) (vs : List (List ℚ)) (r : List ℚ) → dot ms (values (map negated vs) r) ≡ dot (negated ms) (values vs r)
negated_values [] vs r = refl
negated_values (m ∷ ms) [] r = refl
negated_values (m ∷ ms) (v ∷ vs) r = ap₂ (λ a b. m *ℚ a +ℚ b) (dot-negated_left v r) (negated_values ms vs r)
    ∙ ap (λ x. x +ℚ dot (negated ms) (values vs r)) (ring rationals (m ∷ dot v r ∷ []) (v0 ⊗ ⊖ v1) (⊖ v0 ⊗ v1) refl)

negated-combination : (n : ℕ) (ms : List ℚ) (vs : List (List ℚ)) → negated (combination n ms vs) ≡ combination n ms (map negated vs)
negated-combination n [] vs = negated-zeros n
negated-combination n (m ∷ ms) [] = negated-zeros n
negated-combination n (m ∷ ms) (v ∷ vs) =
    negated-plus (scaled m v) (combination n ms vs) ∙ ap₂ plus (negated-scaled m v) (negated-combination n ms vs)

all_negated_twice : (vs : List (List ℚ)) → map negated (map negated vs) ≡ vs
all_negated_twice [] = refl
all_negated_twice (v ∷ vs) = ap₂ (λ a b. a ∷ b) (negated_twice v) (all_negated_twice vs)

-- ---- norms
magnitude-neg : (x : ℚ) → magnitude (neg_ℚ x) ≡ magnitude x
magnitude-neg x = go (sign_of x)
  where
    of_nonneg : (a : ℚ) → zero_ℚ ≤ℚ a → magnitude a ≡ a
    of_nonneg a h = ap (λ b. cond b a (neg_ℚ a)) h

    of_negative : (a : ℚ) → a <ℚ zero_ℚ → magnitude a ≡ neg_ℚ a
    of_negative a h = by (le_ℚ zero_ℚ a) refl
      where
        by : (b : Bool) → le_ℚ zero_ℚ a ≡ b → cond b a (neg_ℚ a) ≡ neg_ℚ a
        by true e = absurd (not_lt_of_le zero_ℚ a e h)
        by false e = refl

    go : Sign x → magnitude (neg_ℚ x) ≡ magnitude x
    go (negative h) = of_nonneg (neg_ℚ x) (le_of_lt zero_ℚ (neg_ℚ x) (neg_positive x h)) ∙ sym (of_negative x h)
    go (none e) = ap (λ a. magnitude (neg_ℚ a)) e ∙ ap magnitude neg_zero ∙ ap magnitude (sym e)
    go (positive h) = of_negative (neg_ℚ x) (negative_of_neg (neg_ℚ x) (subst (λ (a : ℚ). zero_ℚ <ℚ a) (sym (neg_neg x)) h))
        ∙ neg_neg x ∙ sym (of_nonneg x (le_of_lt zero_ℚ x h))

is_zero-neg : (x : ℚ) → is_zero (neg_ℚ x) ≡ is_zero x
is_zero-neg x = same_tests (is_zero (neg_ℚ x)) (is_zero x)
    (λ h. test_of_zero x (sym (neg_neg x) ∙ ap neg_ℚ (zero_of_test (neg_ℚ x) h) ∙ neg_zero))
    (λ h. test_of_zero (neg_ℚ x) (ap neg_ℚ (zero_of_test x h) ∙ neg_zero))

leading-negated : (v : List ℚ) → leading (negated v) ≡ neg_ℚ (leading v)
leading-negated [] = sym neg_zero
leading-negated (x ∷ v) = ap₂ (λ b l. cond b l (neg_ℚ x)) (is_zero-neg x) (leading-negated v) ∙ go (is_zero x)
  where
    go : (b : Bool) → cond b (neg_ℚ (leading v)) (neg_ℚ x) ≡ neg_ℚ (cond b (leading v) x)
    go true = refl
    go false = refl

pub norm-negated : (v : List ℚ) → magnitude (leading (negated v)) ≡ magnitude (leading v)
norm-negated v = ap magnitude (leading-negated v) ∙ magnitude-neg (leading v)

-- ---- hulls
pub hull_negated : (n : ℕ) (points directions lines : List (List ℚ)) (y : List ℚ) → IsInHull n points directions lines y →
    IsInHull n (map negated points) (map negated directions) (map negated lines) (negated y)
hull_negated n points directions lines y h = record {
  weights = h.weights;
  shares = h.shares;
  slopes = h.slopes;
  weight_each = h.weight_each ∙ sym (length-map points negated);
  share_each = h.share_each ∙ sym (length-map directions negated);
  slope_each = h.slope_each ∙ sym (length-map lines negated);
  weights_at_least_zero = h.weights_at_least_zero;
  shares_at_least_zero = h.shares_at_least_zero;
  weights_whole = h.weights_whole;
  combined =
      ap negated h.combined
      ∙ negated-plus (combination n h.weights points) (plus (combination n h.shares directions) (combination n h.slopes lines))
      ∙ ap₂ plus (negated-combination n h.weights points)
      (negated-plus (combination n h.shares directions) (combination n h.slopes lines)
      ∙ ap₂ plus (negated-combination n h.shares directions) (negated-combination n h.slopes lines));
}

-- ---- inequalities
neg_le : (a b : ℚ) → a ≤ℚ b → neg_ℚ b ≤ℚ neg_ℚ a
neg_le a b h = le_of_difference (neg_ℚ b) (neg_ℚ a) (b +ℚ neg_ℚ a) (difference_nonneg a b h)
    (ring rationals (a ∷ b ∷ []) (⊖ v1 ⊕ (v1 ⊝ v0)) (⊖ v0) refl)

neg_le_left : (a b : ℚ) → neg_ℚ a ≤ℚ b → neg_ℚ b ≤ℚ a
neg_le_left a b h = subst (λ (x : ℚ). neg_ℚ b ≤ℚ x) (neg_neg a) (neg_le (neg_ℚ a) b h)

module _ (Set : List ℚ → Type 0) where
  there : (y : List ℚ) → Set y → Negatives Set (negated y)
  there y h = subst (λ (v : List ℚ). Set v) (sym (negated_twice y)) h

  -- normal . y ≥ bound on the set, as normal . y ≤ - bound on its negatives
  above : (w : List ℚ) (bound : ℚ) → ((y : List ℚ) → Set y → bound ≤ℚ dot w y) → (y : List ℚ) → Negatives Set y → dot w y ≤ℚ neg_ℚ bound
  above w bound h y k = subst (λ (x : ℚ). x ≤ℚ neg_ℚ bound) (ap neg_ℚ (dot-negated w y) ∙ neg_neg (dot w y)) (neg_le bound (dot w (negated y)) (h (negated y) k))

  below : (w : List ℚ) (bound : ℚ) → ((y : List ℚ) → Negatives Set y → dot w y ≤ℚ bound) → (y : List ℚ) → Set y → neg_ℚ bound ≤ℚ dot w y
  below w bound h y k = neg_le_left (dot w y) bound (subst (λ (x : ℚ). x ≤ℚ bound) (dot-negated w y) (h (negated y) (there y k)))

  valid_above : (n : ℕ) (c : List ℚ) (e : Inequality) → IsValidAt n Set c e → IsValidAbove n (Negatives Set) c (mirrored e)
  valid_above n c e v = record { wide = v.valid.wide; holds = above e.normal e.bound v.valid.holds; normed = v.normed }

  valid_below : (n : ℕ) (c : List ℚ) (e : Inequality) → IsValidAbove n (Negatives Set) c e → IsValidAt n Set c (mirrored e)
  valid_below n c e v = record { valid = record { wide = v.wide; holds = below e.normal e.bound v.holds }; normed = v.normed }

  mirrored_twice : (e : Inequality) → mirrored (mirrored e) ≡ e
  mirrored_twice e = λ i. record { normal = e.normal; bound = neg_neg e.bound i }

  mirrored_sum : (x y : ℚ) → neg_ℚ (x +ℚ y) ≡ neg_ℚ x +ℚ neg_ℚ y
  mirrored_sum x y = neg_add x y

  facet_to : (n : ℕ) (c : List ℚ) (e : Inequality) → IsFacetAbove n (Negatives Set) c e → IsFacet n Set c (mirrored e)
  facet_to n c e h = record {
    valid = valid_below n c e h.valid;
    no_midpoint = λ a b a_valid b_valid k l.
        let r : (mirrored a ≡ e) × (mirrored b ≡ e) = h.no_midpoint (mirrored a) (mirrored b) (valid_above n c a a_valid) (valid_above n c b b_valid) k
        (sym (neg_neg (e.bound +ℚ e.bound)) ∙ ap neg_ℚ (neg_add e.bound e.bound ∙ l) ∙ neg_add a.bound b.bound) in
        (sym (mirrored_twice a) ∙ ap mirrored r.0, sym (mirrored_twice b) ∙ ap mirrored r.1);
  }

  facet_from : (n : ℕ) (c : List ℚ) (e : Inequality) → IsFacet n Set c (mirrored e) → IsFacetAbove n (Negatives Set) c e
  facet_from n c e h = record {
    valid = subst (λ (x : Inequality). IsValidAbove n (Negatives Set) c x) (mirrored_twice e) (valid_above n c (mirrored e) h.valid);
    no_midpoint = λ a b a_valid b_valid k l.
        let r : (mirrored a ≡ mirrored e) × (mirrored b ≡ mirrored e) = h.no_midpoint (mirrored a) (mirrored b) (valid_below n c a a_valid) (valid_below n c b b_valid) k
        (sym (neg_add e.bound e.bound) ∙ ap neg_ℚ l ∙ neg_add a.bound b.bound) in
        (sym (mirrored_twice a) ∙ ap mirrored r.0 ∙ mirrored_twice e, sym (mirrored_twice b) ∙ ap mirrored r.1 ∙ mirrored_twice e);
  }

  Any : List ℚ → Type 0
  Any v = Unit {0}

  any : (v : List ℚ) → Any v
  unfolding Any
  any v = tt

  pub of_negatives : OfNegatives Set
  of_negatives = record {
    vertices = λ y. (
      λ h. vertex_turned negated Any (λ v k. any (negated v)) (λ u v k l. negated-plus u v) negated-scaled negated_twice (Negatives Set) Set (λ v k. any v) (λ v k. k) there y h,
      λ h. subst (λ (v : List ℚ). IsVertex (Negatives Set) v) (negated_twice y)
          (vertex_turned negated Any (λ v k. any (negated v)) (λ u v k l. negated-plus u v) negated-scaled negated_twice Set (Negatives Set) (λ v k. any v) there (λ v k. k) (negated y) h),
    );
    extreme = λ n d. (
      λ h. extreme_turned negated Any (λ v k. any (negated v)) (λ u v k l. negated-plus u v) negated-scaled negated_twice (Negatives Set) Set (λ v k. any v) (λ v k. k) there n d (negated-zeros n) h,
      λ h. subst (λ (v : List ℚ). IsExtremeDirection n (Negatives Set) v) (negated_twice d)
          (extreme_turned negated Any (λ v k. any (negated v)) (λ u v k l. negated-plus u v) negated-scaled negated_twice Set (Negatives Set) (λ v k. any v) there (λ v k. k) n (negated d) (negated-zeros n) h),
    );
    normed = λ d. (λ h. norm-negated d ∙ h, λ h. sym (norm-negated d) ∙ h);
    hull = λ n points directions lines y. (
      hull_negated n points directions lines y,
      λ h. subst (λ (v : List ℚ). IsInHull n points directions lines v) (negated_twice y)
          (subst (λ (vs : List (List ℚ)). IsInHull n points directions vs (negated (negated y))) (all_negated_twice lines)
          (subst (λ (vs : List (List ℚ)). IsInHull n points vs (map negated (map negated lines)) (negated (negated y))) (all_negated_twice directions)
          (subst (λ (vs : List (List ℚ)). IsInHull n vs (map negated (map negated directions)) (map negated (map negated lines)) (negated (negated y))) (all_negated_twice points)
          (hull_negated n (map negated points) (map negated directions) (map negated lines) (negated y) h)))),
    );
    facets = λ n c e. (facet_to n c e, facet_from n c e);
  }

-- ---- the last sign
abbrev last_negated : List ℚ → List ℚ
last_negated [] = []
last_negated (x ∷ []) = neg_ℚ x ∷ []
last_negated (x ∷ y ∷ v) = x ∷ last_negated (y ∷ v)

last_negated-end : (w : List ℚ) (t : ℚ) → last_negated (w ++ t ∷ []) ≡ w ++ neg_ℚ t ∷ []
last_negated-end [] t = refl
last_negated-end (x ∷ []) t = refl
last_negated-end (x ∷ y ∷ w) t = ap (λ v. x ∷ v) (last_negated-end (y ∷ w) t)

last_negated_twice : (v : List ℚ) → last_negated (last_negated v) ≡ v
last_negated_twice [] = refl
last_negated_twice (x ∷ []) = ap (λ a. a ∷ []) (neg_neg x)
last_negated_twice (x ∷ y ∷ []) = ap (λ a. x ∷ a ∷ []) (neg_neg y)
last_negated_twice (x ∷ y ∷ z ∷ v) = ap (λ u. x ∷ u) (last_negated_twice (y ∷ z ∷ v))

last_negated-scaled : (c : ℚ) (v : List ℚ) → last_negated (scaled c v) ≡ scaled c (last_negated v)
last_negated-scaled c [] = refl
last_negated-scaled c (x ∷ []) = ap (λ a. a ∷ []) (sym (mul_neg c x))
last_negated-scaled c (x ∷ y ∷ v) = ap (λ u. (c *ℚ x) ∷ u) (last_negated-scaled c (y ∷ v))

length-last_negated : (v : List ℚ) → length (last_negated v) ≡ length v
length-last_negated [] = refl
length-last_negated (x ∷ []) = refl
length-last_negated (x ∷ y ∷ v) = ap suc (length-last_negated (y ∷ v))

last_negated-plus : (u v : List ℚ) → length u ≡ length v → last_negated (plus u v) ≡ plus (last_negated u) (last_negated v)
last_negated-plus [] [] h = refl
last_negated-plus [] (y ∷ v) h = absurd (omega arith)
last_negated-plus (x ∷ u) [] h = absurd (omega arith)
last_negated-plus (x ∷ []) (y ∷ []) h = ap (λ a. a ∷ []) (neg_add x y)
last_negated-plus (x ∷ []) (y ∷ b ∷ v) h = absurd (omega arith)
last_negated-plus (x ∷ a ∷ u) (y ∷ []) h = absurd (omega arith)
last_negated-plus (x ∷ a ∷ u) (y ∷ b ∷ v) h = ap (λ w. (x +ℚ y) ∷ w) (last_negated-plus (a ∷ u) (b ∷ v) (omega arith))

last_negated-zeros : (n : ℕ) → last_negated (zeros n) ≡ zeros n
last_negated-zeros zero = refl
last_negated-zeros (suc zero) = ap (λ a. a ∷ []) neg_zero
last_negated-zeros (suc (suc n)) = ap (λ v. zero_ℚ ∷ v) (last_negated-zeros (suc n))

module _ (Set : List ℚ → Type 0) (n : ℕ) (c : List ℚ) where
  P : List ℚ → Type 0
  P v = IsInLowerImageAbove n (Negatives Set) c v

  Q : List ℚ → Type 0
  Q v = IsInLowerImage n Set c v

  Wide : List ℚ → Type 0
  Wide v = length v ≡ suc n

  f_wide : (v : List ℚ) → Wide v → Wide (last_negated v)
  unfolding Wide
  f_wide v h = length-last_negated v ∙ h

  f-plus : (u v : List ℚ) → Wide u → Wide v → last_negated (plus u v) ≡ plus (last_negated u) (last_negated v)
  unfolding Wide
  f-plus u v h k = last_negated-plus u v (h ∙ sym k)

  P_wide : (v : List ℚ) → P v → Wide v
  unfolding P Wide
  P_wide v h = ap length h.same ∙ length-homogenised n h.front h.bound h.wide

  Q_wide : (v : List ℚ) → Q v → Wide v
  unfolding Q Wide
  Q_wide v h = ap length h.same ∙ length-homogenised n h.front h.bound h.wide

  to : (v : List ℚ) → P v → Q (last_negated v)
  unfolding P Q
  to v h = record {
    front = h.front;
    bound = neg_ℚ h.bound;
    wide = h.wide;
    same = ap last_negated h.same ∙ last_negated-end h.front h.bound;
    valid = record {
      wide = length-homogenised n h.front (one_ℚ +ℚ neg_ℚ (dot c h.front)) h.wide;
      holds = below Set (completed c h.front h.bound).normal h.bound h.valid;
    };
  }

  back : (v : List ℚ) → Q v → P (last_negated v)
  unfolding P Q
  back v h = record {
    front = h.front;
    bound = neg_ℚ h.bound;
    wide = h.wide;
    same = ap last_negated h.same ∙ last_negated-end h.front h.bound;
    valid = above Set (completed c h.front h.bound).normal h.bound h.valid.holds;
  }

  at_end : (w : List ℚ) (t : ℚ) → last_negated (w ++ neg_ℚ t ∷ []) ≡ w ++ t ∷ []
  at_end w t = last_negated-end w (neg_ℚ t) ∙ ap (λ x. w ++ x ∷ []) (neg_neg t)

  there_and_back : (w : List ℚ) (t : ℚ) → (P (w ++ t ∷ []) → Q (w ++ neg_ℚ t ∷ [])) × (Q (w ++ neg_ℚ t ∷ []) → P (w ++ t ∷ []))
  there_and_back w t = (
    λ h. subst (λ (v : List ℚ). Q v) (last_negated-end w t) (to (w ++ t ∷ []) h),
    λ h. subst (λ (v : List ℚ). P v) (at_end w t) (back (w ++ neg_ℚ t ∷ []) h),
  )

  lower_vertices : (w : List ℚ) (t : ℚ) → (IsVertex P (w ++ t ∷ []) → IsVertex Q (w ++ neg_ℚ t ∷ [])) × (IsVertex Q (w ++ neg_ℚ t ∷ []) → IsVertex P (w ++ t ∷ []))
  lower_vertices w t = (
    λ h. subst (λ (v : List ℚ). IsVertex Q v) (last_negated-end w t)
        (vertex_turned last_negated Wide f_wide f-plus last_negated-scaled last_negated_twice P Q P_wide to back (w ++ t ∷ []) h),
    λ h. subst (λ (v : List ℚ). IsVertex P v) (at_end w t)
        (vertex_turned last_negated Wide f_wide f-plus last_negated-scaled last_negated_twice Q P Q_wide back to (w ++ neg_ℚ t ∷ []) h),
  )

  RP : List ℚ → Type 0
  RP v = IsRecession (suc n) P v

  RQ : List ℚ → Type 0
  RQ v = IsRecession (suc n) Q v

  RP_wide : (v : List ℚ) → RP v → Wide v
  unfolding RP Wide
  RP_wide v h = h.wide

  RQ_wide : (v : List ℚ) → RQ v → Wide v
  unfolding RQ Wide
  RQ_wide v h = h.wide

  wide_is : (v : List ℚ) → length v ≡ suc n → Wide v
  unfolding Wide
  wide_is v h = h

  R_to : (v : List ℚ) → RP v → RQ (last_negated v)
  unfolding RP RQ
  R_to v h = recession_turned last_negated Wide f_wide f-plus last_negated-scaled last_negated_twice P Q P_wide to back (suc n) v wide_is length-last_negated h

  R_back : (v : List ℚ) → RQ v → RP (last_negated v)
  unfolding RP RQ
  R_back v h = recession_turned last_negated Wide f_wide f-plus last_negated-scaled last_negated_twice Q P Q_wide back to (suc n) v wide_is length-last_negated h

  lower_extreme : (w : List ℚ) (t : ℚ) → (IsExtremeDirection (suc n) RP (w ++ t ∷ []) → IsExtremeDirection (suc n) RQ (w ++ neg_ℚ t ∷ [])) ×
      (IsExtremeDirection (suc n) RQ (w ++ neg_ℚ t ∷ []) → IsExtremeDirection (suc n) RP (w ++ t ∷ []))
  lower_extreme w t = (
    λ h. subst (λ (v : List ℚ). IsExtremeDirection (suc n) RQ v) (last_negated-end w t)
        (extreme_turned last_negated Wide f_wide f-plus last_negated-scaled last_negated_twice RP RQ RP_wide R_to R_back (suc n) (w ++ t ∷ []) (last_negated-zeros (suc n)) h),
    λ h. subst (λ (v : List ℚ). IsExtremeDirection (suc n) RP v) (at_end w t)
        (extreme_turned last_negated Wide f_wide f-plus last_negated-scaled last_negated_twice RQ RP RQ_wide R_back R_to (suc n) (w ++ neg_ℚ t ∷ []) (last_negated-zeros (suc n)) h),
  )

pub lower_of_negatives : (Set : List ℚ → Type 0) → LowerOfNegatives Set
unfolding P Q RP RQ
lower_of_negatives Set = record {
  members = λ n c w t. there_and_back Set n c w t;
  vertices = λ n c w t. lower_vertices Set n c w t;
  extreme = λ n c w t. lower_extreme Set n c w t;
}
