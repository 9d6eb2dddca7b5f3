-- The examples, computed.
use Rattle.std.proofs.Common.{◌≡◌, ◌≢◌, ℕ, zero, suc, List, [], ◌∷◌, length, take, All, Contains, refl, sym, ap, ap₂, ◌∙◌, subst, arith, ◌<◌, inl, inr, pos, negsuc, slice_index_or}
use Rattle.std.proofs.lemmas.List.Elements.{All-nil, All-cons, All-head, All-tail}
use Rattle.exact_field.specs.Gcd.{gcd}
use Rattle.exact_field.specs.Rational.{ℚ, zero_ℚ, one_ℚ, whole, fraction, ◌+ℚ◌, ◌*ℚ◌, neg_ℚ, le_ℚ, ◌≤ℚ◌, ◌<ℚ◌}
use Rattle.exact_field.specs.Vector.{dot}
use Rattle.exact_field.proofs.Comparison.{same_ℚ-is}
use Rattle.exact_field.proofs.Rationals.{one-not-zero}
use Rattle.polyhedra.specs.Vectors.{plus, values, combination}
use Rattle.polyhedra.specs.Dependence.{AreCorners}
use Rattle.polyhedra.specs.Examples.{wholes, IsInQuadrant, left_side, lower_side}
use Rattle.polyhedra.specs.Exactness.{homogenised, IsOneOf}
use Rattle.polyhedra.specs.Farkas.{Meets}
use Rattle.polyhedra.specs.Negatives.{negated}
use Rattle.polyhedra.specs.TightSets.{IsTight}
use Rattle.polyhedra.proofs.Laws.{add_zero, le_refl, le_of_lt, zero_lt_one}
use Rattle.polyhedra.proofs.Algebra.{one_mul, zero_mul, neg_zero}
use Rattle.polyhedra.proofs.Order.{not_lt_of_le, not_zero_of_positive, not_zero_of_negative, add_le_both}
use Rattle.polyhedra.proofs.Linear.{dot-plus, dot-plus_left, dot-combination}
use Rattle.polyhedra.proofs.Lists.{nonneg-nil, nonneg-cons, nonneg-head, nonneg-tail, wide-nil, wide-cons, Contains-here, Contains-there, Contains-cases, Contains-nil}
use Rattle.polyhedra.proofs.Support.{dot_nonneg}
use Rattle.polyhedra.proofs.Tests.{same_vector_is, zero_of_test}
use Rattle.polyhedra.proofs.Negatives.{dot-negated_left}
use Rattle.representations.specs.Dropped.{IsReducedUnit}
use Rattle.representations.specs.Faces.{IsBoundedBelow}
use Rattle.representations.specs.Facets.{MeetsAll, IsLeastFor}
use Rattle.representations.specs.Lined.{AreReaders, IsSpanned, AreLined, AreSidesOf, HoldsFor, EqualFor}
use Rattle.representations.specs.Needed.{AreOthers}
use Rattle.representations.specs.Projection.{spread, IsProjection, AreAssociated}
use Rattle.representations.specs.Scaled.{MeetsTimes, IsMultipleOf}
use Rattle.representations.specs.Examples.{origin, right, upward, both, across, from_one, FaceExample, LinedExample, SidesExample, ProjectionExample}
use Rattle.representations.proofs.Pinned.{values_none, pinned_start}

-- ---- hulls and facets
bounded : IsBoundedBelow both zero_ℚ (origin ∷ []) (right ∷ []) (across ∷ [])
unfolding whole fraction ◌+ℚ◌ ◌*ℚ◌ neg_ℚ le_ℚ gcd
bounded = record {
  at_points = All-cons (λ p. zero_ℚ ≤ℚ dot both p) origin [] refl (All-nil (λ p. zero_ℚ ≤ℚ dot both p));
  at_directions = All-cons (λ d. zero_ℚ ≤ℚ dot both d) right [] refl (All-nil (λ d. zero_ℚ ≤ℚ dot both d));
  at_lines = All-cons (λ l. dot both l ≡ zero_ℚ) across [] (zero_of_test (dot both across) refl) (All-nil (λ l. dot both l ≡ zero_ℚ));
}

both_at_right : zero_ℚ <ℚ dot both right
unfolding whole fraction ◌+ℚ◌ ◌*ℚ◌ neg_ℚ le_ℚ gcd
both_at_right = refl

not_bounded : IsBoundedBelow both zero_ℚ (origin ∷ []) [] (right ∷ []) → ⊥
not_bounded h = not_zero_of_positive (dot both right) both_at_right (All-head (λ l. dot both l ≡ zero_ℚ) right [] h.at_lines)

meets : MeetsAll (left_side ∷ lower_side ∷ []) upward
unfolding whole fraction ◌+ℚ◌ ◌*ℚ◌ neg_ℚ le_ℚ gcd
meets = All-cons (λ e. e.bound ≤ℚ dot e.normal upward) left_side (lower_side ∷ []) refl
    (All-cons (λ e. e.bound ≤ℚ dot e.normal upward) lower_side [] refl (All-nil (λ e. e.bound ≤ℚ dot e.normal upward)))

across_below : dot upward across <ℚ zero_ℚ
unfolding whole fraction ◌+ℚ◌ ◌*ℚ◌ neg_ℚ le_ℚ gcd
across_below = refl

not_meets : MeetsAll (left_side ∷ lower_side ∷ []) across → ⊥
not_meets h = not_lt_of_le zero_ℚ (dot upward across)
    (All-head (λ e. e.bound ≤ℚ dot e.normal across) lower_side [] (All-tail (λ e. e.bound ≤ℚ dot e.normal across) left_side (lower_side ∷ []) h)) across_below

upward_in : IsInQuadrant upward
upward_in = record { wide = refl; left = le_refl zero_ℚ; below = le_of_lt zero_ℚ one_ℚ zero_lt_one }

origin_in : IsInQuadrant origin
origin_in = record { wide = refl; left = le_refl zero_ℚ; below = le_refl zero_ℚ }

right_at_upward : dot right upward ≡ zero_ℚ
unfolding whole fraction ◌+ℚ◌ ◌*ℚ◌ neg_ℚ le_ℚ gcd
right_at_upward = zero_of_test (dot right upward) refl

right_value : (x y : ℚ) → dot right (x ∷ y ∷ []) ≡ x
right_value x y = ap₂ (λ a b. a +ℚ b) (one_mul x) (add_zero (zero_ℚ *ℚ y) ∙ zero_mul y) ∙ add_zero x

least : IsLeastFor IsInQuadrant right upward
least = record { member = upward_in; least = by }
  where
    by : (v : List ℚ) → IsInQuadrant v → dot right upward ≤ℚ dot right v
    by [] h = absurd (omega (arith, h.wide))
    by (x ∷ []) h = absurd (omega (arith, h.wide))
    by (x ∷ y ∷ z ∷ v) h = absurd (omega (arith, h.wide))
    by (x ∷ y ∷ []) h = subst (λ (q : ℚ). q ≤ℚ dot right (x ∷ y ∷ [])) (sym right_at_upward) (subst (λ (q : ℚ). zero_ℚ ≤ℚ q) (sym (right_value x y)) h.left)

origin_lower : dot upward origin <ℚ dot upward upward
unfolding whole fraction ◌+ℚ◌ ◌*ℚ◌ neg_ℚ le_ℚ gcd
origin_lower = refl

not_least : IsLeastFor IsInQuadrant upward upward → ⊥
not_least h = not_lt_of_le (dot upward upward) (dot upward origin) (h.least origin origin_in) origin_lower

pub face_example : FaceExample
unfolding whole fraction ◌+ℚ◌ ◌*ℚ◌ neg_ℚ le_ℚ gcd
face_example = record {
  face = refl;
  bounded = bounded;
  not_bounded = not_bounded;
  tight = refl;
  meets = meets;
  not_meets = not_meets;
  least = least;
  not_least = not_least;
}

-- ---- cones with lines
reads : AreReaders (right ∷ []) (across ∷ [])
unfolding whole fraction ◌+ℚ◌ ◌*ℚ◌ neg_ℚ le_ℚ gcd
reads = ((same_ℚ-is (dot right across) one_ℚ).0 refl, All-nil (λ k. dot right k ≡ zero_ℚ), All-nil (λ s. IsTight s across), tt)

both_at_across : dot both across ≡ zero_ℚ
unfolding whole fraction ◌+ℚ◌ ◌*ℚ◌ neg_ℚ le_ℚ gcd
both_at_across = zero_of_test (dot both across) refl

reads_not : AreReaders (both ∷ []) (across ∷ []) → ⊥
reads_not h = one-not-zero (sym h.0 ∙ both_at_across)

-- rows and vectors of two entries: row i is positive at vector i, and 0 at the other
two_corners : (r s g l : List ℚ) → length r ≡ 2 → length s ≡ 2 → length g ≡ 2 → length l ≡ 2 → zero_ℚ <ℚ dot r g → zero_ℚ <ℚ dot s l → dot r l ≡ zero_ℚ → dot s g ≡ zero_ℚ →
    AreCorners 2 (r ∷ s ∷ []) (g ∷ l ∷ [])
two_corners r s g l a b c d p q u v = record {
  rows_wide = wide-cons 2 r (s ∷ []) a (wide-cons 2 s [] b (wide-nil 2));
  vectors_wide = wide-cons 2 g (l ∷ []) c (wide-cons 2 l [] d (wide-nil 2));
  rows_many = refl;
  vectors_many = refl;
  positive = positive;
  zero_elsewhere = none;
}
  where
    positive : (i : ℕ) → i < 2 → zero_ℚ <ℚ dot (slice_index_or (r ∷ s ∷ []) i []) (slice_index_or (g ∷ l ∷ []) i [])
    positive zero h = p
    positive (suc zero) h = q
    positive (suc (suc i)) h = absurd (omega (arith, h))

    none : (i j : ℕ) → i < 2 → j < 2 → i ≢ j → dot (slice_index_or (r ∷ s ∷ []) i []) (slice_index_or (g ∷ l ∷ []) j []) ≡ zero_ℚ
    none zero zero h k e = absurd (e refl)
    none zero (suc zero) h k e = u
    none zero (suc (suc j)) h k e = absurd (omega (arith, k))
    none (suc zero) zero h k e = v
    none (suc zero) (suc zero) h k e = absurd (e refl)
    none (suc zero) (suc (suc j)) h k e = absurd (omega (arith, k))
    none (suc (suc i)) j h k e = absurd (omega (arith, h))

half_plane : AreCorners 2 (both ∷ right ∷ []) (upward ∷ across ∷ [])
unfolding whole fraction ◌+ℚ◌ ◌*ℚ◌ neg_ℚ le_ℚ gcd
half_plane = two_corners both right upward across refl refl refl refl refl refl both_at_across right_at_upward

lined : AreLined 2 (right ∷ []) (both ∷ []) (upward ∷ []) (across ∷ [])
lined = record {
  described = pinned_start 2 (both ∷ []) (right ∷ []) (upward ∷ []) (across ∷ []) half_plane refl;
  lines_wide = wide-cons 2 across [] refl (wide-nil 2);
  reads = reads;
  at_lines = All-cons (λ v. All (λ r. IsTight r v) (both ∷ [])) across [] (All-cons (λ r. IsTight r across) both [] both_at_across (All-nil (λ r. IsTight r across)))
      (All-nil (λ v. All (λ r. IsTight r v) (both ∷ [])));
}

spanned : IsSpanned 2 (upward ∷ []) (across ∷ []) (wholes (pos 2 ∷ negsuc 0 ∷ []))
unfolding whole fraction ◌+ℚ◌ ◌*ℚ◌ neg_ℚ le_ℚ gcd
spanned = record {
  multipliers = one_ℚ ∷ [];
  slopes = whole (pos 2) ∷ [];
  one_each = refl;
  slope_each = refl;
  at_least_zero = nonneg-cons one_ℚ [] (le_of_lt zero_ℚ one_ℚ zero_lt_one) nonneg-nil;
  combined = same_vector_is _ _ refl;
}

leftward_below : dot both (wholes (negsuc 0 ∷ pos 0 ∷ [])) <ℚ zero_ℚ
unfolding whole fraction ◌+ℚ◌ ◌*ℚ◌ neg_ℚ le_ℚ gcd
leftward_below = refl

both_at_upward : zero_ℚ ≤ℚ dot upward both
unfolding whole fraction ◌+ℚ◌ ◌*ℚ◌ neg_ℚ le_ℚ gcd
both_at_upward = refl

across_at_both : dot across both ≡ zero_ℚ
unfolding whole fraction ◌+ℚ◌ ◌*ℚ◌ neg_ℚ le_ℚ gcd
across_at_both = zero_of_test (dot across both) refl

not_spanned : IsSpanned 2 (upward ∷ []) (across ∷ []) (wholes (negsuc 0 ∷ pos 0 ∷ [])) → ⊥
not_spanned h = not_lt_of_le zero_ℚ (dot both (wholes (negsuc 0 ∷ pos 0 ∷ []))) above leftward_below
  where
    line_value : (ms : List ℚ) → dot ms (values (across ∷ []) both) ≡ zero_ℚ
    line_value ms = values_none ms (across ∷ []) both
        (All-cons (λ v. dot v both ≡ zero_ℚ) across [] across_at_both (All-nil (λ v. dot v both ≡ zero_ℚ)))

    value : dot both (wholes (negsuc 0 ∷ pos 0 ∷ [])) ≡ dot h.multipliers (values (upward ∷ []) both)
    value = ap (dot both) h.combined ∙ dot-plus both (combination 2 h.multipliers (upward ∷ [])) (combination 2 h.slopes (across ∷ []))
        ∙ ap₂ (λ a b. a +ℚ b) (dot-combination 2 both h.multipliers (upward ∷ [])) (dot-combination 2 both h.slopes (across ∷ []) ∙ line_value h.slopes)
        ∙ add_zero (dot h.multipliers (values (upward ∷ []) both))

    above : zero_ℚ ≤ℚ dot both (wholes (negsuc 0 ∷ pos 0 ∷ []))
    above = subst (λ (q : ℚ). zero_ℚ ≤ℚ q) (sym value) (dot_nonneg h.multipliers (values (upward ∷ []) both) h.at_least_zero
        (nonneg-cons (dot upward both) [] both_at_upward nonneg-nil))

pub lined_example : LinedExample
unfolding whole fraction ◌+ℚ◌ ◌*ℚ◌ neg_ℚ le_ℚ gcd
lined_example = record {
  pins = ap (λ v. right ∷ v ∷ both ∷ []) (same_vector_is _ _ refl);
  reads = reads;
  reads_not = reads_not;
  lined = lined;
  spanned = spanned;
  not_spanned = not_spanned;
  places = refl;
  unit = refl;
}

-- ---- both representations
upward_at_right : dot upward right ≡ zero_ℚ
unfolding whole fraction ◌+ℚ◌ ◌*ℚ◌ neg_ℚ le_ℚ gcd
upward_at_right = zero_of_test (dot upward right) refl

half_line : AreCorners 2 (upward ∷ right ∷ []) (upward ∷ right ∷ [])
unfolding whole fraction ◌+ℚ◌ ◌*ℚ◌ neg_ℚ le_ℚ gcd
half_line = two_corners upward right upward right refl refl refl refl refl refl upward_at_right right_at_upward

sides : AreSidesOf 1 [] (upward ∷ right ∷ []) (upward ∷ right ∷ []) ((zero_ℚ ∷ []) ∷ []) ((one_ℚ ∷ []) ∷ []) []
sides = record {
  lined = record {
    described = pinned_start 2 (upward ∷ right ∷ []) [] (upward ∷ right ∷ []) [] half_line refl;
    lines_wide = wide-nil 2;
    reads = tt;
    at_lines = All-nil (λ v. All (λ r. IsTight r v) (upward ∷ right ∷ []));
  };
  points_wide = wide-cons 1 (zero_ℚ ∷ []) [] refl (wide-nil 1);
  directions_wide = wide-cons 1 (one_ℚ ∷ []) [] refl (wide-nil 1);
  lines_wide = wide-nil 1;
  each = All-cons One upward (right ∷ []) (inl (zero_ℚ ∷ [], Contains-here (zero_ℚ ∷ []) [] (zero_ℚ ∷ []) refl, refl))
      (All-cons One right [] (inr (one_ℚ ∷ [], Contains-here (one_ℚ ∷ []) [] (one_ℚ ∷ []) refl, refl)) (All-nil One));
  point_listed = All-cons (λ y. Contains (upward ∷ right ∷ []) (homogenised y one_ℚ)) (zero_ℚ ∷ []) [] (0, omega arith, refl)
      (All-nil (λ y. Contains (upward ∷ right ∷ []) (homogenised y one_ℚ)));
  direction_listed = All-cons (λ d. Contains (upward ∷ right ∷ []) (homogenised d zero_ℚ)) (one_ℚ ∷ []) [] (1, omega arith, refl)
      (All-nil (λ d. Contains (upward ∷ right ∷ []) (homogenised d zero_ℚ)));
}
  where
    One : List ℚ → Type 0
    One g = IsOneOf ((zero_ℚ ∷ []) ∷ []) ((one_ℚ ∷ []) ∷ []) g

holds : HoldsFor (one_ℚ ∷ []) both
unfolding whole fraction ◌+ℚ◌ ◌*ℚ◌ neg_ℚ le_ℚ gcd
holds = refl

not_at_zero : dot both (homogenised (zero_ℚ ∷ []) (neg_ℚ one_ℚ)) <ℚ zero_ℚ
unfolding whole fraction ◌+ℚ◌ ◌*ℚ◌ neg_ℚ le_ℚ gcd
not_at_zero = refl

equal : EqualFor (one_ℚ ∷ []) both
unfolding whole fraction ◌+ℚ◌ ◌*ℚ◌ neg_ℚ le_ℚ gcd
equal = zero_of_test (dot both (homogenised (one_ℚ ∷ []) (neg_ℚ one_ℚ))) refl

more_at_two : zero_ℚ <ℚ dot both (homogenised (wholes (pos 2 ∷ [])) (neg_ℚ one_ℚ))
unfolding whole fraction ◌+ℚ◌ ◌*ℚ◌ neg_ℚ le_ℚ gcd
more_at_two = refl

others : AreOthers (right ∷ upward ∷ []) (upward ∷ []) right
others = record {
  among = All-cons (Contains (right ∷ upward ∷ [])) upward [] (Contains-there right (upward ∷ []) upward (Contains-here upward [] upward refl)) (All-nil (Contains (right ∷ upward ∷ [])));
  left_out = λ c. elim (Contains-cases upward [] right c) [
    | inl e ↦ (let f : one_ℚ ≡ zero_ℚ = cc in one-not-zero f)
    | inr k ↦ Contains-nil right k
  ];
}

abbrev upward' : List ℚ
upward' = wholes (pos 0 ∷ pos 1 ∷ pos 0 ∷ [])

abbrev right' : List ℚ
right' = wholes (pos 1 ∷ pos 0 ∷ pos 0 ∷ [])

pub sides_example : SidesExample
unfolding whole fraction ◌+ℚ◌ ◌*ℚ◌ neg_ℚ le_ℚ gcd
sides_example = record {
  sides = sides;
  rows = ap₂ (λ a b. a ∷ upward' ∷ right' ∷ b ∷ []) (same_vector_is _ _ refl) (same_vector_is _ _ refl);
  holds = holds;
  not_holds = λ h. not_lt_of_le zero_ℚ (dot both (homogenised (zero_ℚ ∷ []) (neg_ℚ one_ℚ))) h not_at_zero;
  equal = equal;
  not_equal = λ h. not_zero_of_positive (dot both (homogenised (wholes (pos 2 ∷ [])) (neg_ℚ one_ℚ))) more_at_two h;
  others = others;
  not_others = λ h. h.left_out (Contains-here right [] right refl);
  held = same_vector_is _ _ refl;
}

-- ---- projections
abbrev lower : List (List ℚ)
lower = both ∷ wholes (pos 0 ∷ negsuc 0 ∷ []) ∷ []

begins : IsProjection 2 1 lower right (one_ℚ ∷ [])
unfolding whole fraction ◌+ℚ◌ ◌*ℚ◌ neg_ℚ le_ℚ gcd
begins = record { solution = right; wide = refl; meets = (refl, (refl, tt)); begins = refl }

abbrev below : List ℚ
below = wholes (pos 0 ∷ negsuc 0 ∷ [])

sum_right : plus both below ≡ right
unfolding whole fraction ◌+ℚ◌ ◌*ℚ◌ neg_ℚ le_ℚ gcd
sum_right = same_vector_is _ _ refl

begins_not : IsProjection 2 1 lower right (zero_ℚ ∷ []) → ⊥
begins_not h = by h.solution h.wide h.meets h.begins
  where
    impossible : (a b : ℚ) → one_ℚ ≤ℚ dot both (a ∷ b ∷ []) → zero_ℚ ≤ℚ dot below (a ∷ b ∷ []) → a ≡ zero_ℚ → ⊥
    impossible a b h k z =
        let x : List ℚ = a ∷ b ∷ [] in
        let sum : dot both x +ℚ dot below x ≡ zero_ℚ = sym (dot-plus_left both below x) ∙ ap (λ v. dot v x) sum_right ∙ right_value a b ∙ z in
        not_lt_of_le one_ℚ zero_ℚ
        (subst (λ (q : ℚ). q ≤ℚ zero_ℚ) (add_zero one_ℚ)
        (subst (λ (q : ℚ). one_ℚ +ℚ zero_ℚ ≤ℚ q) sum (add_le_both one_ℚ (dot both x) zero_ℚ (dot below x) h k))) zero_lt_one

    by : (x : List ℚ) → length x ≡ 2 → Meets lower right x → take 1 x ≡ zero_ℚ ∷ [] → ⊥
    by [] w m e = absurd (omega (arith, w))
    by (a ∷ []) w m e = absurd (omega (arith, w))
    by (a ∷ b ∷ c ∷ x) w m e = absurd (omega (arith, w))
    by (a ∷ b ∷ []) w m e = impossible a b m.0 m.1.0 (let f : a ≡ zero_ℚ = cc in f)

abbrev leftward : List ℚ
leftward = wholes (negsuc 0 ∷ pos 0 ∷ [])

left_negated : leftward ≡ negated right
unfolding whole fraction ◌+ℚ◌ ◌*ℚ◌ neg_ℚ le_ℚ gcd
left_negated = same_vector_is _ _ refl

associated : AreAssociated 2 1 (right ∷ leftward ∷ [])
associated [] w = absurd (omega (arith, w))
associated (a ∷ []) w = absurd (omega (arith, w))
associated (a ∷ b ∷ c ∷ x) w = absurd (omega (arith, w))
associated (a ∷ b ∷ []) w = ap₂ (λ p q. p ∷ q ∷ []) (right_value a b)
    (ap (λ v. dot v (a ∷ b ∷ [])) left_negated ∙ dot-negated_left right (a ∷ b ∷ []) ∙ ap neg_ℚ (right_value a b ∙ sym (add_zero a)))

below_at_upward : dot below upward <ℚ zero_ℚ
unfolding whole fraction ◌+ℚ◌ ◌*ℚ◌ neg_ℚ le_ℚ gcd
below_at_upward = refl

not_associated : AreAssociated 2 1 (right ∷ below ∷ []) → ⊥
not_associated h =
    let same : values (right ∷ below ∷ []) upward ≡ spread (zero_ℚ ∷ []) = h upward refl in
    let second : dot below upward ≡ neg_ℚ (zero_ℚ +ℚ zero_ℚ) = cc in
    not_zero_of_negative (dot below upward) below_at_upward (second ∙ ap neg_ℚ (add_zero zero_ℚ) ∙ neg_zero)

minus_one_below : whole (negsuc 0) <ℚ zero_ℚ
unfolding whole fraction le_ℚ gcd
minus_one_below = refl

left : IsReducedUnit 2 (across ∷ []) upward
unfolding whole fraction ◌+ℚ◌ ◌*ℚ◌ neg_ℚ le_ℚ gcd
left = record { before = 0; after = 1; places = refl; multiple = record { factor = one_ℚ; same = same_vector_is _ _ refl } }

times : MeetsTimes (whole (pos 2)) (from_one ∷ []) (wholes (pos 2 ∷ []))
unfolding whole fraction ◌+ℚ◌ ◌*ℚ◌ neg_ℚ le_ℚ gcd
times = All-cons (λ e. whole (pos 2) *ℚ e.bound ≤ℚ dot e.normal (wholes (pos 2 ∷ []))) from_one [] refl
    (All-nil (λ e. whole (pos 2) *ℚ e.bound ≤ℚ dot e.normal (wholes (pos 2 ∷ []))))

one_is_less : dot (one_ℚ ∷ []) (one_ℚ ∷ []) <ℚ whole (pos 2) *ℚ one_ℚ
unfolding whole fraction ◌+ℚ◌ ◌*ℚ◌ neg_ℚ le_ℚ gcd
one_is_less = refl

multiple : IsMultipleOf 1 (from_one ∷ []) (whole (pos 2)) (wholes (pos 3 ∷ []))
unfolding whole fraction ◌+ℚ◌ ◌*ℚ◌ neg_ℚ le_ℚ gcd
multiple = record {
  solution = one_ℚ ∷ [];
  direction = one_ℚ ∷ [];
  solution_wide = refl;
  direction_wide = refl;
  meets = All-cons (λ e. e.bound ≤ℚ dot e.normal (one_ℚ ∷ [])) from_one [] refl (All-nil (λ e. e.bound ≤ℚ dot e.normal (one_ℚ ∷ [])));
  recedes = All-cons (λ e. zero_ℚ ≤ℚ dot e.normal (one_ℚ ∷ [])) from_one [] refl (All-nil (λ e. zero_ℚ ≤ℚ dot e.normal (one_ℚ ∷ [])));
  same = same_vector_is _ _ refl;
}

pub projection_example : ProjectionExample
unfolding whole fraction ◌+ℚ◌ ◌*ℚ◌ neg_ℚ le_ℚ gcd
projection_example = record {
  spreads = same_vector_is _ _ refl;
  begins = begins;
  begins_not = begins_not;
  associated = associated;
  not_associated = not_associated;
  in_orthant = record { wide = refl; at_least_zero = nonneg-cons zero_ℚ (one_ℚ ∷ []) (le_refl zero_ℚ) (nonneg-cons one_ℚ [] (le_of_lt zero_ℚ one_ℚ zero_lt_one) nonneg-nil) };
  not_in_orthant = λ h. not_lt_of_le zero_ℚ (whole (negsuc 0))
      (nonneg-head (whole (negsuc 0)) [] (nonneg-tail (whole (pos 1)) (whole (negsuc 0) ∷ []) h.at_least_zero)) minus_one_below;
  left = left;
  times = times;
  not_times = λ h. not_lt_of_le (whole (pos 2) *ℚ one_ℚ) (dot (one_ℚ ∷ []) (one_ℚ ∷ []))
      (All-head (λ e. whole (pos 2) *ℚ e.bound ≤ℚ dot e.normal (one_ℚ ∷ [])) from_one [] h) one_is_less;
  multiple = multiple;
}
