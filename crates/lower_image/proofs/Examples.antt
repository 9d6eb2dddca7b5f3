-- The worked rows, generators and facets, computed.
use Rattle.std.proofs.Common.{◌≡◌, zero, suc, Bool, true, false, true≢false, List, [], ◌∷◌, length, map, refl, sym, ap, subst, arith, pos, All, ◌<◌, ◌-◌, inl, inr, ◌≤◌}
use Rattle.std.specs.List.{list_all}
use Rattle.std.proofs.Math.Dec.{lit≤, lit<}
use Rattle.std.proofs.lemmas.List.Elements.{All-nil, All-cons}
use Rattle.exact_field.specs.Gcd.{gcd}
use Rattle.exact_field.specs.Rational.{ℚ, zero_ℚ, one_ℚ, whole, fraction, ◌+ℚ◌, ◌*ℚ◌, neg_ℚ, inverse_ℚ, le_ℚ, ◌≤ℚ◌, ◌<ℚ◌}
use Rattle.exact_field.specs.Vector.{entry, dot}
use Rattle.frac128.specs.declared.vectors.Spot.{Spot}
use Rattle.polyhedra.specs.Exactness.{level}
use Rattle.polyhedra.specs.Hull.{IsValidAt}
use Rattle.polyhedra.specs.Inequality.{Inequality}
use Rattle.polyhedra.proofs.Lists.{Contains-cases, Contains-nil}
use Rattle.polyhedra.proofs.Tests.{both_true, same_vector_is}
use Rattle.tableaux.specs.Dictionary.{IsFullDictionaryOf, multipliers}
use Rattle.tableaux.specs.Table.{System, listed, table_of, unit}
use Rattle.vlp_problem.specs.Sides.{sides, IsFeasible}
use Rattle.upper_image.specs.OrderingCone.{Fits}
use Rattle.upper_image.specs.Shows.{ShowsCut}
use Rattle.upper_image.specs.UpperImage.{IsInWorkingImage}
use Rattle.upper_image.proofs.Solid.{duality_fits}
use Rattle.upper_image.proofs.WorkingImage.{cut_valid}
use Rattle.overflows.specs.Base.{AreMultipliersOff, IsBaseChoice, image_of, weight_of}
use Rattle.overflows.specs.Examples.{n, minus, ones}
use Rattle.geo_duality.specs.Rows.{exchange_row}
use Rattle.overflows.proofs.Values.{apart, equal}
use Rattle.overflows.proofs.Pivots.{Pivots, table_after}
use Rattle.overflows.proofs.WorkedBase.{full_after}
use Rattle.lp_form.specs.Programs.{feasible_system}
use Rattle.lower_image.specs.Examples.{LowerExamples, across, choice_row, corners, first_row, first_up, four_up, second_row}
use Rattle.lower_image.specs.Lower.{AreAllFacets, AreLowerRows, IsCertified, dual_vector, inequality_of, weight_at}
use Rattle.lower_image.proofs.LowerRows.{point_holds}
use Rattle.lower_image.proofs.Start.{lower_start}

fits : Fits corners ones
unfolding whole fraction gcd ◌+ℚ◌ ◌*ℚ◌ neg_ℚ inverse_ℚ le_ℚ
fits = duality_fits corners ones [] [] [] record {
  lengths = refl;
  scaled = refl;
  follows = refl;
  interior = (
    record { weights_none = refl; picks_none = refl; inverse_none = refl },
    All-cons (λ x. zero_ℚ <ℚ x) (n 1) (n 1 ∷ []) refl (All-cons (λ x. zero_ℚ <ℚ x) (n 1) [] refl (All-nil (λ x. zero_ℚ <ℚ x))),
  );
}

-- ---- the choice
abbrev corner : List ℚ
corner = n 0 ∷ n 4 ∷ []

abbrev feasible : System
feasible = feasible_system corners

abbrev pivots : Pivots
pivots = (0, 1) ∷ (1, 2) ∷ []

feasible_full : IsFullDictionaryOf feasible (1 ∷ 2 ∷ []) (table_after (table_of feasible) pivots)
unfolding whole fraction gcd ◌+ℚ◌ ◌*ℚ◌ neg_ℚ inverse_ℚ le_ℚ
feasible_full = full_after feasible (1 ∷ 2 ∷ []) pivots refl refl refl refl refl refl

corner_read : AreMultipliersOff feasible corner
unfolding whole fraction gcd ◌+ℚ◌ ◌*ℚ◌ neg_ℚ inverse_ℚ le_ℚ
corner_read = record {
  basis = 1 ∷ 2 ∷ [];
  dictionary = table_after (table_of feasible) pivots;
  full = feasible_full;
  reads = same_vector_is corner (multipliers feasible (table_after (table_of feasible) pivots)) refl;
}

-- each of the sides passes its test
all_pass : (P : Inequality → Type 0) (test : Inequality → Bool) → ((e : Inequality) → test e ≡ true → P e) → (all : List Inequality) → list_all test all ≡ true → All P all
all_pass P test h [] k = All-nil P
all_pass P test h (e ∷ all) k =
    let b : (test e ≡ true) × (list_all test all ≡ true) = both_true (test e) (list_all test all) k in
    All-cons P e all (h e b.0) (all_pass P test h all b.1)

corner_feasible : IsFeasible corners corner
unfolding whole fraction gcd ◌+ℚ◌ ◌*ℚ◌ neg_ℚ inverse_ℚ le_ℚ
corner_feasible = record { width = refl; meets = all_pass (λ s. s.bound ≤ℚ dot s.normal corner) (λ s. le_ℚ s.bound (dot s.normal corner)) (λ s h. h) (sides corners) refl }

choice : IsBaseChoice corners corner
unfolding whole
choice = record { feasible = corner_feasible; read = inl (corner, corner_read, refl) }

no_corner : IsBaseChoice corners (n 0 ∷ n 3 ∷ []) → ⊥
unfolding whole fraction gcd ◌+ℚ◌ ◌*ℚ◌ neg_ℚ inverse_ℚ le_ℚ
no_corner h = true≢false (sym (h.feasible.meets 0 (record { normal = []; bound = zero_ℚ }) (lit< tt)))

-- ---- rows
three : (u u' v v' w w' : List ℚ) → u ≡ u' → v ≡ v' → w ≡ w' → u ∷ v ∷ w ∷ [] ≡ u' ∷ v' ∷ w' ∷ []
three u u' v v' w w' d e f = cc

same_rows : exchange_row ones (image_of corners corner) true ∷ map (λ e. exchange_row ones e false) (listed 2 (unit 2)) ≡ choice_row ∷ first_row ∷ second_row ∷ []
unfolding whole fraction gcd ◌+ℚ◌ ◌*ℚ◌ neg_ℚ inverse_ℚ le_ℚ
same_rows =
    three (exchange_row ones (image_of corners corner) true) choice_row (exchange_row ones (unit 2 1) false) first_row
    (exchange_row ones (unit 2 2) false) second_row
    (same_vector_is (exchange_row ones (image_of corners corner) true) choice_row refl)
    (same_vector_is (exchange_row ones (unit 2 1) false) first_row refl)
    (same_vector_is (exchange_row ones (unit 2 2) false) second_row refl)

rows_are : AreLowerRows corners ones (choice_row ∷ first_row ∷ second_row ∷ [])
unfolding whole
rows_are = subst (AreLowerRows corners ones) same_rows
    (lower_start.begins corners ones corner (listed 2 (unit 2)) fits choice (lower_start.units corners refl))

no_direction : AreLowerRows corners ones (choice_row ∷ first_row ∷ []) → ⊥
unfolding whole fraction gcd ◌+ℚ◌ ◌*ℚ◌ neg_ℚ inverse_ℚ le_ℚ
no_direction h =
    let inside = h.in_dual (n 0 ∷ []) (minus 4) (minus 1) refl
    (All-cons (λ r. zero_ℚ ≤ℚ dot r (n 0 ∷ minus 4 ∷ minus 1 ∷ [])) choice_row (first_row ∷ []) refl
    (All-cons (λ r. zero_ℚ ≤ℚ dot r (n 0 ∷ minus 4 ∷ minus 1 ∷ [])) first_row [] refl
    (All-nil (λ r. zero_ℚ ≤ℚ dot r (n 0 ∷ minus 4 ∷ minus 1 ∷ []))))) in
    true≢false (sym (inside.within (n 0 ∷ n 1 ∷ []) record {
      wide = refl;
      entries = All-cons (λ x. zero_ℚ ≤ℚ x) (n 0) (n 1 ∷ []) refl (All-cons (λ x. zero_ℚ ≤ℚ x) (n 1) [] refl (All-nil (λ x. zero_ℚ ≤ℚ x)));
    }))

-- the entry of the bound is -1 for a choice
no_choice : AreLowerRows corners ones (first_row ∷ second_row ∷ []) → ⊥
unfolding whole le_ℚ neg_ℚ
no_choice h = elim (Contains-cases first_row (second_row ∷ []) (exchange_row ones (image_of corners h.point) true) h.listed) [
  | inl e ↦ apart (n 0) (neg_ℚ one_ℚ) refl (ap (λ (v : List ℚ). entry v 2) e)
  | inr k ↦ elim (Contains-cases second_row [] (exchange_row ones (image_of corners h.point) true) k) [
    | inl e ↦ apart (n 0) (neg_ℚ one_ℚ) refl (ap (λ (v : List ℚ). entry v 2) e)
    | inr m ↦ Contains-nil (exchange_row ones (image_of corners h.point) true) m
  ]
]

-- ---- certified generators
abbrev second_side : List Spot
second_side = record { at = 2; value = n 1 } ∷ []

shown : ShowsCut corners ones (n 1 ∷ n 0 ∷ []) (n 0) second_side []
unfolding whole fraction gcd ◌+ℚ◌ ◌*ℚ◌ neg_ℚ inverse_ℚ le_ℚ
shown = record {
  lengths = refl;
  index = All-cons (λ (s : Spot). s.at ≤ length (sides corners)) (record { at = 2; value = n 1 }) [] (lit≤ tt) (All-nil (λ (s : Spot). s.at ≤ length (sides corners)));
  sign = All-cons (λ (s : Spot). zero_ℚ <ℚ s.value) (record { at = 2; value = n 1 }) [] refl (All-nil (λ (s : Spot). zero_ℚ <ℚ s.value));
  balance = same_vector_is _ _ refl;
  cone = record {
    lengths = refl;
    cone = All-cons (λ x. zero_ℚ ≤ℚ x) (n 1) (n 0 ∷ []) refl (All-cons (λ x. zero_ℚ ≤ℚ x) (n 0) [] refl (All-nil (λ x. zero_ℚ ≤ℚ x)));
  };
  scaled = equal _ one_ℚ refl;
  bound = equal _ (n 0) refl;
}

valid : IsValidAt 2 (IsInWorkingImage corners) ones first_up
unfolding whole
valid = cut_valid corners ones (n 1 ∷ n 0 ∷ []) (n 0) second_side [] shown

certified : IsCertified corners ones across
unfolding whole fraction gcd ◌+ℚ◌ ◌*ℚ◌ neg_ℚ inverse_ℚ le_ℚ
certified =
    subst (λ (w : List ℚ). IsValidAt 2 (IsInWorkingImage corners) ones record { normal = w; bound = n 0 })
    (sym (same_vector_is (weight_of ones across) (n 1 ∷ n 0 ∷ []) refl)) valid

abbrev flat : List ℚ
flat = n 4 ∷ n 0 ∷ []

flat_feasible : IsFeasible corners flat
unfolding whole fraction gcd ◌+ℚ◌ ◌*ℚ◌ neg_ℚ inverse_ℚ le_ℚ
flat_feasible = record { width = refl; meets = all_pass (λ s. s.bound ≤ℚ dot s.normal flat) (λ s. le_ℚ s.bound (dot s.normal flat)) (λ s h. h) (sides corners) refl }

not_certified : IsCertified corners ones four_up → ⊥
unfolding whole fraction gcd ◌+ℚ◌ ◌*ℚ◌ neg_ℚ inverse_ℚ le_ℚ
not_certified h = true≢false (sym (point_holds corners ones fits (inequality_of 2 ones four_up) h flat flat_feasible))

-- ---- facets
no_facets : AreAllFacets corners ones [] → ⊥
unfolding whole fraction gcd ◌+ℚ◌ ◌*ℚ◌ neg_ℚ inverse_ℚ le_ℚ
no_facets h = true≢false (sym (h.enough first_up valid (minus 1 ∷ n 0 ∷ n 0 ∷ []) refl
    (All-cons (λ r. zero_ℚ ≤ℚ dot r (minus 1 ∷ n 0 ∷ n 0 ∷ [])) (level 2) [] refl (All-nil (λ r. zero_ℚ ≤ℚ dot r (minus 1 ∷ n 0 ∷ n 0 ∷ []))))))

no_repetition : AreAllFacets corners ones (first_up ∷ first_up ∷ []) → ⊥
unfolding whole
no_repetition h = h.distinct 0 1 first_up (lit< tt) (lit< tt) refl

pub lower_examples : LowerExamples
unfolding whole fraction gcd ◌+ℚ◌ ◌*ℚ◌ neg_ℚ inverse_ℚ le_ℚ
lower_examples = record {
  weight = same_vector_is (weight_at ones (n 1 ∷ []) (n 1)) (n 1 ∷ n 0 ∷ []) refl;
  vector = same_vector_is (dual_vector ones first_up) across refl;
  standing = refl;
  choice = choice;
  no_corner = no_corner;
  rows_are = rows_are;
  no_direction = no_direction;
  no_choice = no_choice;
  certified = certified;
  not_certified = not_certified;
  no_facets = no_facets;
  no_repetition = no_repetition;
}
