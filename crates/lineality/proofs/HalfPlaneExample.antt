-- A half plane: its line, its reduced part, and that it meets the conditions of exactness.
use Rattle.std.proofs.Common.{◌≡◌, ℕ, zero, suc, List, [], ◌∷◌, length, All, AllPairs, Contains, refl, sym, ◌∙◌, subst, arith, ◌<◌, inl, inr, slice_index_or}
use Rattle.std.proofs.lemmas.List.Elements.{All-nil, All-cons, All-head}
use Rattle.exact_field.specs.Gcd.{gcd}
use Rattle.exact_field.specs.Rational.{ℚ, zero_ℚ, one_ℚ, whole, fraction, ◌+ℚ◌, ◌*ℚ◌, neg_ℚ, le_ℚ, ◌≤ℚ◌, ◌<ℚ◌}
use Rattle.exact_field.specs.Vector.{dot, entry}
use Rattle.exact_field.proofs.Comparison.{same_ℚ-is}
use Rattle.exact_field.proofs.Rationals.{one-not-zero}
use Rattle.polyhedra.specs.Vectors.{zeros, plus, scaled, combination}
use Rattle.polyhedra.specs.DoubleDescription.{leading}
use Rattle.polyhedra.specs.Exactness.{homogenised, level, row_of, IsOneOf, TightLiesIn, IsNamed, IsAccounted}
use Rattle.polyhedra.specs.Hull.{IsConvex, IsVertex, IsValidAt, IsNormedDirection}
use Rattle.polyhedra.specs.Negatives.{negated}
use Rattle.polyhedra.proofs.Laws.{mul_nonneg}
use Rattle.polyhedra.proofs.Order.{add_nonneg, difference_nonneg, le_of_eq, not_lt_of_le, not_zero_of_positive}
use Rattle.polyhedra.proofs.Linear.{dot-plus, dot-scaled, dot-zeros, length-plus, length-scaled}
use Rattle.polyhedra.proofs.Lists.{wide-nil, wide-cons, Contains-here}
use Rattle.polyhedra.proofs.Members.{pairs-nil, pairs-cons}
use Rattle.polyhedra.proofs.Tests.{same_vector_is, zero_of_test}
use Rattle.lineality.specs.Exactness.{IsEnclosedAlong, IsSolvedAlong, IsExactAlong}
use Rattle.lineality.specs.Lines.{leading_place, IsInLineality, IsCombined, AreEchelon, RunsAlong, AreLines, IsReduced, IsReducedIn}
use Rattle.lineality.specs.Steps.{IsCornerAlong}
use Rattle.lineality.specs.Examples.{IsInHalfPlane, side, border, corner, upward, HalfPlaneExample}
use Rattle.lineality.proofs.ExactAlong.{exactness_along}
use Rattle.lineality.proofs.OpenPlaces.{corners_along}

-- ---- the half plane is a convex cone
abbrev ones : List ℚ
ones = one_ℚ ∷ one_ℚ ∷ []

in_sum : (a b : List ℚ) → IsInHalfPlane a → IsInHalfPlane b → IsInHalfPlane (plus a b)
in_sum a b h k = record {
  wide = length-plus 2 a b h.wide k.wide;
  above = subst (λ (x : ℚ). zero_ℚ ≤ℚ x) (sym (dot-plus ones a b)) (add_nonneg (dot ones a) (dot ones b) h.above k.above);
}

in_multiple : (s : ℚ) (a : List ℚ) → zero_ℚ ≤ℚ s → IsInHalfPlane a → IsInHalfPlane (scaled s a)
in_multiple s a p h = record {
  wide = length-scaled s a ∙ h.wide;
  above = subst (λ (x : ℚ). zero_ℚ ≤ℚ x) (sym (dot-scaled ones s a)) (mul_nonneg s (dot ones a) p h.above);
}

in_zero : IsInHalfPlane (zeros 2)
in_zero = record { wide = refl; above = le_of_eq zero_ℚ (dot ones (zeros 2)) (sym (dot-zeros ones 2)) }

convex : IsConvex 2 IsInHalfPlane IsInHalfPlane
convex = record {
  wide = λ y h. h.wide;
  directions_wide = λ d h. h.wide;
  mean = λ l a b p q h k. in_sum (scaled (one_ℚ +ℚ neg_ℚ l) a) (scaled l b) (in_multiple (one_ℚ +ℚ neg_ℚ l) a (difference_nonneg l one_ℚ q) h) (in_multiple l b p k);
  recedes = in_sum;
  direction_zero = in_zero;
  direction_sum = in_sum;
  direction_multiple = in_multiple;
}

-- ---- members
border_above : zero_ℚ ≤ℚ dot ones border
unfolding whole fraction ◌+ℚ◌ ◌*ℚ◌ neg_ℚ le_ℚ gcd
border_above = refl

border_below : zero_ℚ ≤ℚ dot ones (negated border)
unfolding whole fraction ◌+ℚ◌ ◌*ℚ◌ neg_ℚ le_ℚ gcd
border_below = refl

upward_above : zero_ℚ ≤ℚ dot ones upward
unfolding whole fraction ◌+ℚ◌ ◌*ℚ◌ neg_ℚ le_ℚ gcd
upward_above = refl

abbrev axis : List ℚ
axis = one_ℚ ∷ zero_ℚ ∷ []

axis_back : dot ones (negated axis) <ℚ zero_ℚ
unfolding whole fraction ◌+ℚ◌ ◌*ℚ◌ neg_ℚ le_ℚ gcd
axis_back = refl

border_in : IsInHalfPlane border
border_in = record { wide = refl; above = border_above }

border_back : IsInHalfPlane (negated border)
border_back = record { wide = refl; above = border_below }

upward_in : IsInHalfPlane upward
upward_in = record { wide = refl; above = upward_above }

-- ---- the line
border_one : leading border ≡ one_ℚ
unfolding whole le_ℚ gcd
border_one = refl

form : AreEchelon 2 (border ∷ [])
form = record {
  wide = wide-cons 2 border [] refl (wide-nil 2);
  leading_one = All-cons (λ d. leading d ≡ one_ℚ) border [] border_one (All-nil (λ d. leading d ≡ one_ℚ));
  places_rise = alone (λ d e. leading_place d < leading_place e);
  others_zero = alone (λ d e. entry d (leading_place e) ≡ zero_ℚ);
}
  where
    alone : (R : List ℚ → List ℚ → Type 0) → AllPairs R (border ∷ [])
    alone R = pairs-cons R border [] (All-nil (R border)) (pairs-nil R)

along : RunsAlong 2 IsInHalfPlane (border ∷ [])
along = record {
  echelon = form;
  each = All-cons (IsInLineality IsInHalfPlane) border [] (record { forth = border_in; back = border_back }) (All-nil (IsInLineality IsInHalfPlane));
}

Reduced : List ℚ → Type 0
Reduced v = IsReduced (border ∷ []) v

corner_reduced : Reduced corner
unfolding Reduced whole le_ℚ gcd
corner_reduced = All-cons (λ d. entry corner (leading_place d) ≡ zero_ℚ) border [] refl (All-nil _)

upward_reduced : Reduced upward
unfolding Reduced whole le_ℚ gcd
upward_reduced = All-cons (λ d. entry upward (leading_place d) ≡ zero_ℚ) border [] refl (All-nil _)

-- ---- the side
side_normed : dot ones axis ≡ one_ℚ
unfolding whole fraction ◌+ℚ◌ ◌*ℚ◌ neg_ℚ le_ℚ gcd
side_normed = (same_ℚ-is (dot ones axis) one_ℚ).0 refl

side_valid : IsValidAt 2 IsInHalfPlane axis side
side_valid = record { valid = record { wide = refl; holds = λ y h. h.above }; normed = side_normed }

side_level : dot ones border ≡ zero_ℚ
unfolding whole fraction ◌+ℚ◌ ◌*ℚ◌ neg_ℚ le_ℚ gcd
side_level = zero_of_test (dot ones border) refl

side_tight : dot ones corner ≡ zero_ℚ
side_tight = dot-zeros ones 2

side_grows : zero_ℚ <ℚ dot ones upward
unfolding whole fraction ◌+ℚ◌ ◌*ℚ◌ neg_ℚ le_ℚ gcd
side_grows = refl

corner_along : IsCornerAlong 2 (border ∷ []) (side ∷ []) corner (upward ∷ [])
unfolding Reduced
corner_along = record {
  normals_wide = All-cons (λ e. length e.normal ≡ 2) side [] refl (All-nil (λ e. length e.normal ≡ 2));
  point_wide = refl;
  directions_wide = wide-cons 2 upward [] refl (wide-nil 2);
  cuts_many = refl;
  directions_many = refl;
  point_reduced = corner_reduced;
  directions_reduced = All-cons Reduced upward [] upward_reduced (All-nil Reduced);
  tight = All-cons (λ e. dot e.normal corner ≡ e.bound) side [] side_tight (All-nil (λ e. dot e.normal corner ≡ e.bound));
  grows = grows;
  stays = λ i j l r other. absurd (omega (arith, l, r, other));
}
  where
    grows : (i : ℕ) → i < 1 → zero_ℚ <ℚ dot (slice_index_or (ones ∷ []) i []) (slice_index_or (upward ∷ []) i [])
    grows zero l = side_grows
    grows (suc i) l = absurd (omega (arith, l))

-- ---- the conditions of exactness
abbrev gens : List (List ℚ)
gens = homogenised corner one_ℚ ∷ homogenised upward zero_ℚ ∷ []

corner_at_side : dot (row_of side) (homogenised corner one_ℚ) ≡ zero_ℚ
unfolding whole fraction ◌+ℚ◌ ◌*ℚ◌ neg_ℚ le_ℚ gcd
corner_at_side = zero_of_test (dot (row_of side) (homogenised corner one_ℚ)) refl

corner_at_level : zero_ℚ <ℚ dot (level 2) (homogenised corner one_ℚ)
unfolding whole fraction ◌+ℚ◌ ◌*ℚ◌ neg_ℚ le_ℚ gcd
corner_at_level = refl

-- the corner is tight at the side, and not where t is 0
touches : TightLiesIn gens (row_of side) (level 2) → ⊥
touches h = not_zero_of_positive (dot (level 2) (homogenised corner one_ℚ)) corner_at_level
    (All-head (λ g. dot (row_of side) g ≡ zero_ℚ → dot (level 2) g ≡ zero_ℚ) (homogenised corner one_ℚ) (homogenised upward zero_ℚ ∷ []) h corner_at_side)

named : IsNamed 2 (side ∷ []) gens side
named = record {
  cut = Contains-here side [] side refl;
  touches = touches;
  largest = All-cons Largest (level 2) (row_of side ∷ []) (λ h. absurd (touches h)) (All-cons Largest (row_of side) [] (λ h. h) (All-nil Largest));
}
  where
    Largest : List ℚ → Type 0
    Largest row = TightLiesIn gens (row_of side) row → TightLiesIn gens row (row_of side)

upward_normed : IsNormedDirection upward
unfolding whole le_ℚ
upward_normed = refl

enclosed : IsEnclosedAlong 2 IsInHalfPlane IsInHalfPlane axis (border ∷ []) (side ∷ []) gens (corner ∷ []) (upward ∷ [])
unfolding Reduced
enclosed = record {
  convex = convex;
  c_wide = refl;
  along = along;
  cuts_valid = All-cons (IsValidAt 2 IsInHalfPlane axis) side [] side_valid (All-nil (IsValidAt 2 IsInHalfPlane axis));
  cuts_level = All-cons (λ e. All (λ d. dot e.normal d ≡ zero_ℚ) (border ∷ [])) side []
      (All-cons (λ d. dot ones d ≡ zero_ℚ) border [] side_level (All-nil (λ d. dot ones d ≡ zero_ℚ))) (All-nil _);
  described = corners_along 2 (border ∷ []) (side ∷ []) corner (upward ∷ []) form corner_along;
  each = All-cons One (homogenised corner one_ℚ) (homogenised upward zero_ℚ ∷ []) (inl (corner, Contains-here corner [] corner refl, refl))
      (All-cons One (homogenised upward zero_ℚ) [] (inr (upward, Contains-here upward [] upward refl, refl)) (All-nil One));
  point_listed = All-cons (λ y. Contains gens (homogenised y one_ℚ)) corner [] (0, omega arith, refl) (All-nil (λ y. Contains gens (homogenised y one_ℚ)));
  direction_listed = All-cons (λ d. Contains gens (homogenised d zero_ℚ)) upward [] (1, omega arith, refl) (All-nil (λ d. Contains gens (homogenised d zero_ℚ)));
  points_in = All-cons PartIn corner [] (record { member = in_zero; reduced = corner_reduced }) (All-nil PartIn);
  directions_in = All-cons PartIn upward [] (record { member = upward_in; reduced = upward_reduced }) (All-nil PartIn);
  directions_normed = All-cons IsNormedDirection upward [] upward_normed (All-nil IsNormedDirection);
}
  where
    One : List ℚ → Type 0
    One g = IsOneOf (corner ∷ []) (upward ∷ []) g

    PartIn : List ℚ → Type 0
    PartIn y = IsReducedIn (border ∷ []) IsInHalfPlane y

solved : IsSolvedAlong 2 IsInHalfPlane IsInHalfPlane axis (border ∷ []) (side ∷ []) gens (corner ∷ []) (upward ∷ []) (side ∷ [])
solved = record {
  enclosed = enclosed;
  names = All-cons (IsNamed 2 (side ∷ []) gens) side [] named (All-nil (IsNamed 2 (side ∷ []) gens));
  accounted = All-cons (IsAccounted 2 (side ∷ []) gens) side [] (record { within = inr (side, Contains-here side [] side refl, λ k d h e. e) })
      (All-nil (IsAccounted 2 (side ∷ []) gens));
}

exact : IsExactAlong 2 IsInHalfPlane IsInHalfPlane axis (border ∷ []) (corner ∷ []) (upward ∷ []) (side ∷ [])
exact = exactness_along IsInHalfPlane IsInHalfPlane 2 axis (border ∷ []) (side ∷ []) gens (corner ∷ []) (upward ∷ []) (side ∷ []) solved

-- ---- near misses
not_along : RunsAlong 2 IsInHalfPlane (axis ∷ []) → ⊥
not_along h = not_lt_of_le zero_ℚ (dot ones (negated axis)) (All-head (IsInLineality IsInHalfPlane) axis [] h.each).back.above axis_back

not_without : AreLines 2 IsInHalfPlane [] → ⊥
not_without h = no_one (h.spans border (record { forth = border_in; back = border_back }))
  where
    none : (ms : List ℚ) → combination 2 ms [] ≡ zeros 2
    none [] = refl
    none (m ∷ ms) = refl

    no_one : IsCombined 2 [] border → ⊥
    no_one k = let e : border ≡ zeros 2 = k.combined ∙ none k.multipliers in let f : one_ℚ ≡ zero_ℚ = cc in one-not-zero f

border_sum : plus corner corner ≡ plus border (negated border)
unfolding whole fraction ◌+ℚ◌ ◌*ℚ◌ neg_ℚ le_ℚ gcd
border_sum = same_vector_is _ _ refl

no_vertex : IsVertex IsInHalfPlane corner → ⊥
no_vertex h = let e : border ≡ corner = (h.no_midpoint border (negated border) border_in border_back border_sum).0 in let f : one_ℚ ≡ zero_ℚ = cc in one-not-zero f

pub half_plane_example : HalfPlaneExample
half_plane_example = record {
  line = exact.lines_are;
  not_along = not_along;
  not_without = not_without;
  vertex = (exact.vertices corner).0 (Contains-here corner [] corner refl);
  no_vertex = no_vertex;
  solved = solved;
}
