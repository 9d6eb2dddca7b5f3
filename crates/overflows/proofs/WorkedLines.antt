-- The worked rows, generators and sums of an image with a line, computed.
use Rattle.std.proofs.Common.{◌≡◌, slice_index_or, ℕ, zero, suc, ◌-◌, ◌<◌, ◌≤◌, Bool, true, false, List, [], ◌∷◌, ◌++◌, length, map, refl, sym, ap, ◌∙◌, subst, arith, All, Contains, slice_get, ◌⊎◌, inl, inr, None, pos}
use Rattle.std.specs.Prelude.{◌==◌}
use Rattle.std.specs.List.{list_all}
use Rattle.std.proofs.Math.Dec.{lit≤, lit<}
use Rattle.std.proofs.lemmas.Bool.{eqb-true}
use Rattle.std.proofs.lemmas.List.Elements.{All-nil, All-cons, All-append, All-weaker}
use Rattle.exact_field.specs.Gcd.{gcd}
use Rattle.exact_field.specs.Order.{same_ℚ}
use Rattle.exact_field.specs.Rational.{ℚ, zero_ℚ, one_ℚ, whole, fraction, ◌+ℚ◌, ◌*ℚ◌, neg_ℚ, inverse_ℚ, le_ℚ, ◌<ℚ◌}
use Rattle.exact_field.specs.Vector.{entry, dot, front}
use Rattle.exact_field.specs.declared.op.Op.TheVariants.{Mul, Div}
use Rattle.exact_field.specs.declared.op.Left.{Left}
use Rattle.exact_field.specs.Ring.{num, ◌⊕◌, ◌⊗◌, v0, v1}
use Rattle.exact_field.proofs.RingTool.{ring}
use Rattle.exact_field.proofs.Rationals.{rationals}
use Rattle.lineality.specs.Steps.{list_without}
use Rattle.lineality.specs.Without.{without, with_zeros}
use Rattle.polyhedra.specs.Cone.{HasFullRank}
use Rattle.polyhedra.specs.Dependence.{AreCorners}
use Rattle.polyhedra.specs.DoubleDescription.{leading}
use Rattle.polyhedra.specs.Exactness.{level}
use Rattle.polyhedra.specs.Hull.{IsMultiple}
use Rattle.polyhedra.specs.LiveList.{Numbered, LiveList, LivePair, live_pairs, step}
use Rattle.polyhedra.specs.Negatives.{negated}
use Rattle.polyhedra.specs.Vectors.{AreWide, values}
use Rattle.polyhedra.proofs.Algebra.{mul_zero}
use Rattle.polyhedra.proofs.Corners.{corners_determine}
use Rattle.polyhedra.proofs.Laws.{mul_one}
use Rattle.polyhedra.proofs.Lists.{HasWidth, Contains-here, Contains-there, Contains-nil}
use Rattle.polyhedra.proofs.Members.{member_of}
use Rattle.polyhedra.proofs.Negatives.{negated_twice}
use Rattle.polyhedra.proofs.Tests.{list_all-true, same_vector_is}
use Rattle.tableaux.specs.Table.{System, at, row_of, table_of}
use Rattle.tableaux.specs.Dictionary.{IsFullDictionaryOf, solution, multipliers}
use Rattle.tableaux.specs.Simplex.{IsSolution}
use Rattle.tableaux.proofs.Eliminated.{starts}
use Rattle.frac128.specs.declared.vectors.Spot.{Spot}
use Rattle.vlp_problem.specs.Sides.{sides}
use Rattle.upper_image.specs.Spots.{dense}
use Rattle.upper_image.specs.UpperImage.{normals, objectives}
use Rattle.deriv_log.specs.declared.entry.Entry.{Entry}
use Rattle.deriv_log.specs.declared.entry.Entry.TheVariants.{Version, Duality, Cut, Start}
use Rattle.deriv_log.specs.declared.licence.Family.{Family}
use Rattle.deriv_log.specs.declared.licence.Family.TheVariants.{Image}
use Rattle.deriv_log.specs.declared.licence.Place.TheVariants.{Elim, Pair}
use Rattle.log_rules.specs.Live.{rows_in_use, cut_row}
use Rattle.log_rules.specs.LogEvents.{plain_failure}
use Rattle.log_rules.specs.Meets.{Meets}
use Rattle.log_rules.proofs.LogMeets.{events_give_meets}
use Rattle.lp_form.specs.Programs.{side_total, feasible_system, benson_system, choice_of, u_of, w_of}
use Rattle.overflows.specs.Base.{IsSolutionOff, AreMultipliersOff, IsBaseChoice, IsBaseRow, IsBaseCut, IsBaseStart, IsFlat, IsSide, trail_normals}
use Rattle.overflows.specs.Examples.{n, minus, is_few, ones, trail_of}
use Rattle.overflows.specs.LineExamples.{half_plane, cuts, line, beside, along, in_along, OverflowsAlong, short_rows, full_rows, short_added, full_added, LineExamples}
use Rattle.overflows.specs.Licence.{StandsFor, Completes, IsHeldDuality, Licensed}
use Rattle.overflows.specs.Dictionaries.{AreStartRows, AreElimRows, IsElimTable, IsElimStep}
use Rattle.overflows.specs.Generators.{IsAddition, IsPairStep, IsAdditionStep, filled}
use Rattle.overflows.specs.Products.{IsListStep, IsRowOrWeight, IsStartOrGenerator, AreMultiplied}
use Rattle.overflows.specs.Settings.{standing, line_marks}
use Rattle.overflows.specs.Steps.{operation, value_steps, pair_steps}
use Rattle.geo_duality.specs.Rows.{exchange_row}
use Rattle.overflows.specs.Trails.{IsBaseDirection, IsBaseEntry, IsBaseLine, IsBaseTrail}
use Rattle.overflows.proofs.FirstCut.{at_least_zero}
use Rattle.overflows.proofs.Given.{not_held, overflow_laws}
use Rattle.overflows.proofs.Growing.{trail_laws}
use Rattle.overflows.proofs.Making.{generator_laws}
use Rattle.overflows.proofs.Pivots.{Pivots, table_after, no_column}
use Rattle.overflows.proofs.Values.{equal, apart, wide_test, step_is, held_all}
use Rattle.overflows.proofs.Worked.{begins}
use Rattle.overflows.proofs.WorkedBase.{full_after}
use Rattle.overflows.proofs.WorkedImages.{rows_are}
use Rattle.overflows.proofs.WorkedPairs.{known_is, live_wide}

-- ---- the cuts
abbrev program : System
program = benson_system half_plane ones (n 0 ∷ n 0 ∷ []) true

-- the pivots that take the multiplier of this side
abbrev pivots : ℕ → Pivots
pivots side = (1, side) ∷ (0, 3) ∷ (3, 4) ∷ (2, 7) ∷ (4, 8) ∷ []

abbrev basis : ℕ → List ℕ
basis side = 3 ∷ side ∷ 7 ∷ 4 ∷ 8 ∷ []

abbrev first_z : List ℚ
first_z = n 0 ∷ n 1 ∷ n 0 ∷ n 1 ∷ n 0 ∷ n 0 ∷ n 0 ∷ n 1 ∷ []

abbrev second_z : List ℚ
second_z = n 1 ∷ n 0 ∷ n 0 ∷ n 1 ∷ n 0 ∷ n 0 ∷ n 0 ∷ n 1 ∷ []

first_full : IsFullDictionaryOf program (basis 2) (table_after (table_of program) (pivots 2))
unfolding whole fraction gcd ◌+ℚ◌ ◌*ℚ◌ neg_ℚ inverse_ℚ le_ℚ
first_full = full_after program (basis 2) (pivots 2) refl refl refl refl refl refl

second_full : IsFullDictionaryOf program (basis 1) (table_after (table_of program) (pivots 1))
unfolding whole fraction gcd ◌+ℚ◌ ◌*ℚ◌ neg_ℚ inverse_ℚ le_ℚ
second_full = full_after program (basis 1) (pivots 1) refl refl refl refl refl refl

first_read : IsSolutionOff program first_z
unfolding whole fraction gcd ◌+ℚ◌ ◌*ℚ◌ neg_ℚ inverse_ℚ le_ℚ
first_read = record {
  basis = basis 2;
  dictionary = table_after (table_of program) (pivots 2);
  full = first_full;
  reads = same_vector_is first_z (solution program (basis 2) (table_after (table_of program) (pivots 2))) refl;
}

second_read : IsSolutionOff program second_z
unfolding whole fraction gcd ◌+ℚ◌ ◌*ℚ◌ neg_ℚ inverse_ℚ le_ℚ
second_read = record {
  basis = basis 1;
  dictionary = table_after (table_of program) (pivots 1);
  full = second_full;
  reads = same_vector_is second_z (solution program (basis 1) (table_after (table_of program) (pivots 1))) refl;
}

first_solves : IsSolution program.equations program.right first_z
unfolding whole fraction gcd ◌+ℚ◌ ◌*ℚ◌ neg_ℚ inverse_ℚ le_ℚ
first_solves = record { at_least_zero = at_least_zero first_z refl; equal = same_vector_is (values program.equations first_z) program.right refl }

second_solves : IsSolution program.equations program.right second_z
unfolding whole fraction gcd ◌+ℚ◌ ◌*ℚ◌ neg_ℚ inverse_ℚ le_ℚ
second_solves = record { at_least_zero = at_least_zero second_z refl; equal = same_vector_is (values program.equations second_z) program.right refl }

abbrev up : List ℚ
up = n 0 ∷ n 1 ∷ []

abbrev first_u : List Spot
first_u = record { at = 2; value = n 1 } ∷ []

abbrev second_u : List Spot
second_u = record { at = 1; value = n 1 } ∷ []

first_is : IsBaseCut half_plane ones up first_u []
unfolding whole fraction gcd ◌+ℚ◌ ◌*ℚ◌ neg_ℚ inverse_ℚ le_ℚ
first_is = IsBaseCut.of_benson first_z (first_read, first_solves) (same_vector_is up (w_of half_plane first_z) refl)
    (record { dual = same_vector_is (dense (side_total half_plane) first_u) (u_of half_plane first_z) refl; cone = refl })

second_is : IsBaseCut half_plane ones up second_u []
unfolding whole fraction gcd ◌+ℚ◌ ◌*ℚ◌ neg_ℚ inverse_ℚ le_ℚ
second_is = IsBaseCut.of_benson second_z (second_read, second_solves) (same_vector_is up (w_of half_plane second_z) refl)
    (record { dual = same_vector_is (dense (side_total half_plane) second_u) (u_of half_plane second_z) refl; cone = refl })

-- ---- the choice of the line
abbrev feasible : System
feasible = feasible_system half_plane

abbrev choice : List ℚ
choice = n 0 ∷ n 4 ∷ []

abbrev feasible_pivots : Pivots
feasible_pivots = (1, 1) ∷ (0, 3) ∷ []

feasible_full : IsFullDictionaryOf feasible (3 ∷ 1 ∷ []) (table_after (table_of feasible) feasible_pivots)
unfolding whole fraction gcd ◌+ℚ◌ ◌*ℚ◌ neg_ℚ inverse_ℚ le_ℚ
feasible_full = full_after feasible (3 ∷ 1 ∷ []) feasible_pivots refl refl refl refl refl refl

choice_read : AreMultipliersOff feasible choice
unfolding whole fraction gcd ◌+ℚ◌ ◌*ℚ◌ neg_ℚ inverse_ℚ le_ℚ
choice_read = record {
  basis = 3 ∷ 1 ∷ [];
  dictionary = table_after (table_of feasible) feasible_pivots;
  full = feasible_full;
  reads = same_vector_is choice (multipliers feasible (table_after (table_of feasible) feasible_pivots)) refl;
}

choice_is : IsBaseChoice half_plane choice
unfolding whole fraction gcd ◌+ℚ◌ ◌*ℚ◌ neg_ℚ inverse_ℚ le_ℚ
choice_is = record {
  feasible = record { width = refl; meets = list_all-true (λ s. le_ℚ s.bound (dot s.normal choice)) (sides half_plane) refl };
  read = inl (choice, choice_read, refl);
}

abbrev x : List Spot
x = record { at = 2; value = n 4 } ∷ []

chosen : IsBaseChoice half_plane (dense half_plane.cols x)
unfolding whole fraction gcd ◌+ℚ◌ ◌*ℚ◌ neg_ℚ inverse_ℚ le_ℚ
chosen = subst (λ (v : List ℚ). IsBaseChoice half_plane v) (same_vector_is choice (dense half_plane.cols x) refl) choice_is

-- ---- its pre-images
abbrev forth : List ℚ
forth = n 1 ∷ n 0 ∷ []

abbrev back : List ℚ
back = minus 1 ∷ n 0 ∷ []

abbrev forth_program : System
forth_program = benson_system half_plane ones forth false

abbrev back_program : System
back_program = benson_system half_plane ones back false

forth_full : IsFullDictionaryOf forth_program (basis 1) (table_after (table_of forth_program) (pivots 1))
unfolding whole fraction gcd ◌+ℚ◌ ◌*ℚ◌ neg_ℚ inverse_ℚ le_ℚ
forth_full = full_after forth_program (basis 1) (pivots 1) refl refl refl refl refl refl

back_full : IsFullDictionaryOf back_program (basis 1) (table_after (table_of back_program) (pivots 1))
unfolding whole fraction gcd ◌+ℚ◌ ◌*ℚ◌ neg_ℚ inverse_ℚ le_ℚ
back_full = full_after back_program (basis 1) (pivots 1) refl refl refl refl refl refl

abbrev forth_multipliers : List ℚ
forth_multipliers = n 1 ∷ n 0 ∷ n 0 ∷ n 0 ∷ n 0 ∷ []

abbrev back_multipliers : List ℚ
back_multipliers = minus 1 ∷ n 0 ∷ n 0 ∷ n 0 ∷ n 0 ∷ []

forth_read : AreMultipliersOff forth_program forth_multipliers
unfolding whole fraction gcd ◌+ℚ◌ ◌*ℚ◌ neg_ℚ inverse_ℚ le_ℚ
forth_read = record {
  basis = basis 1;
  dictionary = table_after (table_of forth_program) (pivots 1);
  full = forth_full;
  reads = same_vector_is forth_multipliers (multipliers forth_program (table_after (table_of forth_program) (pivots 1))) refl;
}

back_read : AreMultipliersOff back_program back_multipliers
unfolding whole fraction gcd ◌+ℚ◌ ◌*ℚ◌ neg_ℚ inverse_ℚ le_ℚ
back_read = record {
  basis = basis 1;
  dictionary = table_after (table_of back_program) (pivots 1);
  full = back_full;
  reads = same_vector_is back_multipliers (multipliers back_program (table_after (table_of back_program) (pivots 1))) refl;
}

abbrev forth_spots : List Spot
forth_spots = record { at = 1; value = n 1 } ∷ []

abbrev back_spots : List Spot
back_spots = record { at = 1; value = minus 1 } ∷ []

forth_is : IsBaseDirection half_plane ones [] forth forth_spots []
unfolding whole fraction gcd ◌+ℚ◌ ◌*ℚ◌ neg_ℚ inverse_ℚ le_ℚ
forth_is = IsBaseDirection.read (record {
  multipliers = forth_multipliers;
  read = forth_read;
  choice = same_vector_is (dense half_plane.cols forth_spots) (choice_of half_plane forth_multipliers) refl;
  share = refl;
})

back_is : IsBaseDirection half_plane ones [] back back_spots []
unfolding whole fraction gcd ◌+ℚ◌ ◌*ℚ◌ neg_ℚ inverse_ℚ le_ℚ
back_is = IsBaseDirection.read (record {
  multipliers = back_multipliers;
  read = back_read;
  choice = same_vector_is (dense half_plane.cols back_spots) (choice_of half_plane back_multipliers) refl;
  share = refl;
})

turned : back ≡ negated forth
unfolding whole fraction gcd ◌+ℚ◌ ◌*ℚ◌ neg_ℚ inverse_ℚ le_ℚ
turned = same_vector_is back (negated forth) refl

-- ---- the side
abbrev with_cuts : List Entry
with_cuts = trail_of ones ++ cuts

abbrev sides_before : List (List ℚ)
sides_before = up ∷ up ∷ []

-- a vector that is flat at both normals is a multiple of (1, 0)
second_entry : (a b : ℚ) → zero_ℚ *ℚ a +ℚ (one_ℚ *ℚ b +ℚ zero_ℚ) ≡ b
second_entry a b = ring rationals (a ∷ b ∷ []) (num (pos 0) ⊗ v0 ⊕ (num (pos 1) ⊗ v1 ⊕ num (pos 0))) v1 refl

two : (a b c d : ℚ) → a ≡ b → c ≡ d → a ∷ c ∷ [] ≡ b ∷ d ∷ []
two a b c d e f = cc

spans : (z : List ℚ) → IsFlat 2 sides_before [] z → IsMultiple forth z
unfolding whole
spans [] h = let w = h.wide in absurd (omega (arith, w))
spans (a ∷ []) h = let w = h.wide in absurd (omega (arith, w))
spans (a ∷ b ∷ []) h =
    let none : b ≡ zero_ℚ = sym (second_entry a b) ∙ h.across 0 up (lit< tt) in
    record { factor = a; same = two a (a *ℚ one_ℚ) b (a *ℚ zero_ℚ) (sym (mul_one a)) (none ∙ sym (mul_zero a)) }
spans (a ∷ b ∷ c ∷ more) h = let w = h.wide in absurd (omega (arith, w))

forth_side : IsSide 2 sides_before forth
unfolding whole fraction gcd ◌+ℚ◌ ◌*ℚ◌ neg_ℚ inverse_ℚ le_ℚ
forth_side = record {
  starts = equal (leading forth) one_ℚ refl;
  places = [];
  flat = record {
    wide = refl;
    at_places = All-nil (λ k. entry forth k ≡ zero_ℚ);
    across = All-cons (λ w. dot w forth ≡ zero_ℚ) up (up ∷ []) (equal (dot up forth) zero_ℚ refl)
        (All-cons (λ w. dot w forth ≡ zero_ℚ) up [] (equal (dot up forth) zero_ℚ refl) (All-nil (λ w. dot w forth ≡ zero_ℚ)));
  };
  spans = spans;
}

line_is : IsBaseLine half_plane ones [] with_cuts forth x forth_spots [] back_spots []
unfolding whole
line_is = record {
  side = forth_side;
  chosen = chosen;
  read_forth = forth_is;
  read_back = subst (λ (d : List ℚ). IsBaseDirection half_plane ones [] d back_spots []) turned back_is;
}

no_line : (x' ray m back' k : List Spot) → IsBaseLine half_plane ones [] with_cuts up x' ray m back' k → ⊥
unfolding whole fraction gcd ◌+ℚ◌ ◌*ℚ◌ neg_ℚ inverse_ℚ le_ℚ
no_line _ _ _ _ _ h = apart one_ℚ zero_ℚ refl (equal one_ℚ (dot up up) refl ∙ h.side.flat.across 0 up (lit< tt))

-- ---- the trail
abbrev first_cut : Entry
first_cut = Cut up (n 0) first_u []

abbrev second_cut : Entry
second_cut = Cut up (n 4) second_u []

abbrev start : Entry
start = Start (1 ∷ []) (n 0 ∷ n 0 ∷ []) (n 0 ∷ n 1 ∷ [])

passes : plain_failure (λ q. true) half_plane along ≡ None
unfolding whole fraction gcd ◌+ℚ◌ ◌*ℚ◌ neg_ℚ inverse_ℚ le_ℚ
passes = refl

entry_meets : (before : List Entry) (e : Entry) (after : List Entry) → along ≡ before ++ e ∷ after → Meets half_plane before e
entry_meets = events_give_meets (λ q. true) half_plane along passes

opened_is : IsBaseTrail half_plane ones [] (trail_of ones)
unfolding whole
opened_is = trail_laws.opened half_plane ones [] [] [] (entry_meets (Version 1 ∷ []) (Duality ones [] [] []) beside refl).rules (refl, refl)

more : (trail : List Entry) (e : Entry) (after : List Entry) → IsBaseTrail half_plane ones [] trail → along ≡ trail ++ e ∷ after →
    IsBaseEntry half_plane ones [] trail e → IsBaseTrail half_plane ones [] (trail ++ e ∷ [])
more trail e after t same b = trail_laws.grows half_plane ones [] trail e t (entry_meets trail e after same) b

cuts_are : IsBaseTrail half_plane ones [] with_cuts
cuts_are = more (trail_of ones ++ first_cut ∷ []) second_cut (line ∷ start ∷ [])
    (more (trail_of ones) first_cut (second_cut ∷ line ∷ start ∷ []) opened_is refl first_is) refl second_is

with_line : IsBaseTrail half_plane ones [] along
with_line = more (with_cuts ++ line ∷ []) start [] (more with_cuts line (start ∷ []) cuts_are refl line_is) refl tt

-- ---- eliminations
abbrev short_normals : List (List ℚ)
short_normals = (n 1 ∷ []) ∷ []

positive : (i : ℕ) → i < 1 → zero_ℚ <ℚ dot (slice_index_or short_normals i []) (slice_index_or short_normals i [])
unfolding whole fraction gcd ◌+ℚ◌ ◌*ℚ◌ neg_ℚ inverse_ℚ le_ℚ
positive zero l = refl
positive (suc i) l = absurd (omega (arith, l))

are_corners : AreCorners 1 short_normals short_normals
unfolding whole
are_corners = record {
  rows_wide = wide_test 1 short_normals refl;
  vectors_wide = wide_test 1 short_normals refl;
  rows_many = refl;
  vectors_many = refl;
  positive = positive;
  zero_elsewhere = λ i j l u h. absurd (h (omega (arith, l, u)));
}

allowed_rows : AreStartRows in_along short_rows 2
unfolding whole fraction gcd ◌+ℚ◌ ◌*ℚ◌ neg_ℚ inverse_ℚ le_ℚ
allowed_rows = AreStartRows.of_image (2 ∷ [])
    (All-cons (λ k. (1 ≤ k) × (k ≤ 2)) 2 [] (lit≤ tt, lit≤ tt) (All-nil (λ k. (1 ≤ k) × (k ≤ 2)))) refl
    (subst (λ (vs : List (List ℚ)). HasFullRank 1 vs)
    (rows_are short_normals (map (without (line_marks in_along)) (map (row_of (trail_normals 2 along)) (2 ∷ []))) refl)
    (corners_determine 1 short_normals short_normals are_corners))
    (rows_are short_rows (map (without (line_marks in_along)) (level 2 ∷ map (cut_row (standing in_along)) (2 ∷ []))) refl)

elimination : OverflowsAlong (Elim short_rows (0 ∷ 0 ∷ []) 2 2 1) (operation Div (n 1) (minus 4))
unfolding whole fraction gcd ◌+ℚ◌ ◌*ℚ◌ neg_ℚ inverse_ℚ le_ℚ
elimination = overflow_laws.elimination is_few in_along short_rows 2 short_rows 2 (0 ∷ 0 ∷ []) 2 2 1 (operation Div (n 1) (minus 4)) refl refl
    (IsElimTable.alone (AreElimRows.of_start 2 allowed_rows) refl refl) refl (lit≤ tt) (lit≤ tt) (
      short_rows,
      starts 2 short_rows (0 ∷ 0 ∷ []) (wide_test 2 short_rows refl) (λ i. no_column 2 (i - 1)),
      (1, lit≤ tt, lit≤ tt, inl (refl, (refl, equal (n 1) (at short_rows 2 1) refl, equal (minus 4) (at short_rows 2 2) refl, refl))),
      lit≤ tt,
      lit≤ tt,
      lit≤ tt,
      lit≤ tt,
    )

begun : StandsFor is_few half_plane ones [] [] (trail_of ones)
unfolding whole fraction gcd ◌+ℚ◌ ◌*ℚ◌ neg_ℚ inverse_ℚ le_ℚ
begun = begins half_plane ones refl refl (refl, refl)

no_numbers : IsHeldDuality is_few ones [] []
unfolding whole fraction gcd ◌+ℚ◌ ◌*ℚ◌ neg_ℚ inverse_ℚ le_ℚ
no_numbers = record { c_held = held_all is_few ones refl; weights_held = held_all is_few [] refl; inverse_held = held_all is_few [] refl }

licence : Licensed is_few half_plane ones (record { place = Elim short_rows (0 ∷ 0 ∷ []) 2 2 1; left = operation Div (n 1) (minus 4); trail = beside })
licence = inl (record {
  weights = [];
  whole = along;
  stands = record { possible = begun.possible; completes = Completes.after_opening [] [] no_numbers refl; base = with_line };
  overflow = elimination;
})

no_row : IsBaseRow half_plane ones (n 0 ∷ n 1 ∷ minus 4 ∷ []) → ⊥
unfolding whole le_ℚ neg_ℚ
no_row (IsBaseRow.of_choice x h e) = apart (n 1) (neg_ℚ one_ℚ) refl (ap (λ (v : List ℚ). entry v 2) e)
no_row (IsBaseRow.of_ray r h e) = apart (n 1) zero_ℚ refl (ap (λ (v : List ℚ). entry v 2) e)
no_row (IsBaseRow.of_cone d (i, l, u, unit) e) =
    apart (n 1) zero_ℚ refl (ap (λ (v : List ℚ). entry v 2) (e ∙ ap (λ (y : List ℚ). exchange_row ones y false) unit))

-- how long the first of some rows is
abbrev first_long : List (List ℚ) → ℕ
first_long rs = length (slice_index_or rs 0 [])

no_rows : (width : ℕ) → AreElimRows in_along full_rows width → ⊥
unfolding whole fraction gcd ◌+ℚ◌ ◌*ℚ◌ neg_ℚ inverse_ℚ le_ℚ
no_rows width (AreElimRows.of_normals e) = let long : 3 ≡ 2 = ap first_long e in omega (arith, long)
no_rows width (AreElimRows.of_start w (AreStartRows.of_image cuts all many rank e)) = let long : 3 ≡ 2 = ap first_long e in omega (arith, long)
no_rows width (AreElimRows.of_start w (AreStartRows.of_cone all)) = Contains-nil _ (all 0 (n 0 ∷ n 0 ∷ n 1 ∷ []) (lit< tt))
no_rows width (AreElimRows.of_start w (AreStartRows.of_base c known all)) =
    no_row (subst (λ (d : List ℚ). IsBaseRow half_plane d (n 0 ∷ n 1 ∷ minus 4 ∷ [])) (known_is c known) (all 1 (n 0 ∷ n 1 ∷ minus 4 ∷ []) (lit< tt)))

full_elimination : OverflowsAlong (Elim full_rows (0 ∷ 0 ∷ []) 2 3 1) (operation Div (n 1) (minus 4)) → ⊥
full_elimination h = go h.operands
  where
    go : IsElimStep is_few in_along full_rows (0 ∷ 0 ∷ []) 2 3 1 (operation Div (n 1) (minus 4))
        ⊎ ((◌≡◌ {A = ℕ} 2 0) × (◌≡◌ {A = List ℕ} (0 ∷ 0 ∷ []) []) × IsListStep in_along full_rows 3 1 (operation Div (n 1) (minus 4))) → ⊥
    go (inl e) = within e.is.of_rows
      where
        within : IsElimTable in_along full_rows e.width e.is.table e.columns → ⊥
        within (IsElimTable.alone allowed same many) = no_rows e.width allowed
        within (IsElimTable.beside allowed square same many) = no_rows e.width (AreElimRows.of_start e.width allowed)
    go (inr l) = let k = l.0 in omega (arith, k)

-- ---- the addition of the second cut
abbrev in_use : List (List ℚ)
in_use = (n 0 ∷ n 1 ∷ []) ∷ (n 1 ∷ n 0 ∷ []) ∷ []

abbrev last : List ℚ
last = n 1 ∷ minus 4 ∷ []

abbrev list : LiveList
list = list_without (line_marks in_along) (standing in_along).list

used : in_use ≡ map (without (line_marks in_along)) (rows_in_use 2 (standing in_along))
unfolding whole fraction gcd ◌+ℚ◌ ◌*ℚ◌ neg_ℚ inverse_ℚ le_ℚ
used = rows_are in_use (map (without (line_marks in_along)) (rows_in_use 2 (standing in_along))) refl

allowed : IsAddition in_along in_use last list Image
unfolding whole fraction gcd ◌+ℚ◌ ◌*ℚ◌ neg_ℚ inverse_ℚ le_ℚ
allowed = IsAddition.of_image 2 (lit≤ tt) (lit≤ tt) used
    (same_vector_is last (without (line_marks in_along) (cut_row (standing in_along) 2)) refl) refl

-- a member by its place
abbrev nothing : Numbered
nothing = record { number = 0; vector = [] }

there : (xs : List Numbered) (k : ℕ) → k < length xs → Contains xs (slice_index_or xs k nothing)
there xs k l = (k, l, go xs k l)
  where
    go : (xs : List Numbered) (k : ℕ) → k < length xs → slice_index_or xs k (slice_index_or xs k nothing) ≡ slice_index_or xs k nothing
    go [] k l = absurd (omega (arith, l))
    go (x ∷ xs) zero l = refl
    go (x ∷ xs) (suc k) l = go xs k (omega (arith, l))

first_live : Contains list.live (slice_index_or list.live 0 nothing)
unfolding whole fraction gcd ◌+ℚ◌ ◌*ℚ◌ neg_ℚ inverse_ℚ le_ℚ
first_live = there list.live 0 (lit< tt)

value : OverflowsAlong (Pair Image short_added 1 0 1) (operation Mul (minus 4) (n 1))
unfolding whole fraction gcd ◌+ℚ◌ ◌*ℚ◌ neg_ℚ inverse_ℚ le_ℚ
value = record {
  not_held = not_held is_few (operation Mul (minus 4) (n 1)) refl refl;
  operands = record {
    before = in_use;
    last = last;
    parted = refl;
    list = list;
    allowed = allowed;
    operands = IsPairStep.value (slice_index_or list.live 0 nothing) first_live refl refl
        (record {
          from_one = lit≤ tt;
          there = step_is (slice_get (value_steps last (slice_index_or list.live 0 nothing).vector) 0) Mul (minus 4) (n 1) refl;
        });
  };
}

abbrev no_pair : LivePair
no_pair = record { plus_side = nothing; minus_side = nothing }

abbrev all_pairs : List LivePair
all_pairs = live_pairs in_use list.live last

abbrev one_pair : LivePair
one_pair = slice_index_or all_pairs 0 no_pair

one_there : (ps : List LivePair) → 0 < length ps → Contains ps (slice_index_or ps 0 no_pair)
one_there [] l = absurd (omega (arith, l))
one_there (p ∷ ps) l = (0, l, refl)

pair : OverflowsAlong (Pair Image short_added 2 1 1) (operation Div (n 1) (n 4))
unfolding whole fraction gcd ◌+ℚ◌ ◌*ℚ◌ neg_ℚ inverse_ℚ le_ℚ
pair = record {
  not_held = not_held is_few (operation Div (n 1) (n 4)) refl refl;
  operands = record {
    before = in_use;
    last = last;
    parted = refl;
    list = list;
    allowed = allowed;
    operands = IsPairStep.pair one_pair (one_there all_pairs (lit< tt)) refl refl
        (record {
          from_one = lit≤ tt;
          there = step_is (slice_get (pair_steps last one_pair.plus_side.vector one_pair.minus_side.vector) 0) Div (n 1) (n 4) refl;
        });
  };
}

-- full rows are not added
not_added : (first second number : ℕ) (left : Left ℚ) → IsAdditionStep in_along Image full_added first second number left → ⊥
unfolding whole fraction gcd ◌+ℚ◌ ◌*ℚ◌ neg_ℚ inverse_ℚ le_ℚ
not_added first second number left h = go h.allowed
  where
    go : IsAddition in_along h.before h.last h.list Image → ⊥
    go (IsAddition.of_image k l u e f m) =
        let long : 3 ≡ 2 = ap first_long (h.parted ∙ ap (λ (rs : List (List ℚ)). rs ++ h.last ∷ []) e) in omega (arith, long)

full_pair : OverflowsAlong (Pair Image full_added 2 1 1) (operation Div (n 1) (n 4)) → ⊥
full_pair h = not_added 2 1 1 (operation Div (n 1) (n 4)) h.operands

full_value : OverflowsAlong (Pair Image full_added 1 0 1) (operation Mul (minus 4) (n 1)) → ⊥
full_value h = not_added 1 0 1 (operation Mul (minus 4) (n 1)) h.operands

-- ---- products
abbrev row : List ℚ
row = n 0 ∷ n 1 ∷ n 0 ∷ []

abbrev level_row : List ℚ
level_row = n 0 ∷ n 0 ∷ n 1 ∷ []

is_used : Contains (rows_in_use 2 (standing in_along)) row
unfolding whole fraction gcd ◌+ℚ◌ ◌*ℚ◌ neg_ℚ inverse_ℚ le_ℚ
is_used = subst (λ (rs : List (List ℚ)). Contains rs row) (rows_are (level_row ∷ row ∷ []) (rows_in_use 2 (standing in_along)) refl)
    (Contains-there level_row (row ∷ []) row (Contains-here row [] row refl))

abbrev added : List Numbered
added = (step in_use list last).live

abbrev full_point : List ℚ
full_point = n 0 ∷ n 4 ∷ n 1 ∷ []

is_multiplied : AreMultiplied in_along row full_point
unfolding whole fraction gcd ◌+ℚ◌ ◌*ℚ◌ neg_ℚ inverse_ℚ le_ℚ
is_multiplied = AreMultiplied.across (IsRowOrWeight.in_use is_used)
    (IsStartOrGenerator.generator (inr (
      in_use,
      last,
      Image,
      list,
      slice_index_or added 1 nothing,
      allowed,
      inr (there added 1 (lit< tt)),
      same_vector_is full_point (with_zeros (line_marks in_along) (slice_index_or added 1 nothing).vector) refl,
    )))

product : OverflowsAlong (Elim [] [] 0 2 2) (operation Mul (n 1) (n 4))
unfolding whole fraction gcd ◌+ℚ◌ ◌*ℚ◌ neg_ℚ inverse_ℚ le_ℚ
product = overflow_laws.term is_few in_along row full_point 2 (operation Mul (n 1) (n 4)) refl (inl is_multiplied) (lit≤ tt) (lit≤ tt) (lit≤ tt)
    (inl (refl, refl, refl, refl))

-- ---- each generator has all three entries
row_wide : (r : List ℚ) → IsBaseRow half_plane ones r → length r ≡ 3
unfolding whole
row_wide r (IsBaseRow.of_choice y h e) = ap (λ (v : List ℚ). length v) e
row_wide r (IsBaseRow.of_ray y h e) = ap (λ (v : List ℚ). length v) e
row_wide r (IsBaseRow.of_cone d (i, l, u, unit) e) = ap (λ (v : List ℚ). length v) (e ∙ ap (λ (y : List ℚ). exchange_row ones y false) unit)

rows_wide : (rows : List (List ℚ)) → All (IsBaseRow half_plane ones) rows → AreWide 3 rows
rows_wide rows h = record { wide = All-weaker (IsBaseRow half_plane ones) (HasWidth 3) row_wide rows h }

-- of the image, with its zeros
abbrev has_three : Numbered → Bool
has_three g = length (with_zeros (line_marks in_along) g.vector) == 3

abbrev AllThree : List Numbered → Type 0
AllThree live = list_all has_three live ≡ true

live_three : AllThree list.live
unfolding whole fraction gcd ◌+ℚ◌ ◌*ℚ◌ neg_ℚ inverse_ℚ le_ℚ
live_three = refl

abbrev after_cut : ℕ → List Numbered
after_cut k =
    (step (map (without (line_marks in_along)) (rows_in_use 2 (standing in_along))) list (without (line_marks in_along) (cut_row (standing in_along) k))).live

after_three : (k : ℕ) → 1 ≤ k → k ≤ 2 → AllThree (after_cut k)
unfolding whole fraction gcd ◌+ℚ◌ ◌*ℚ◌ neg_ℚ inverse_ℚ le_ℚ
after_three zero l u = absurd (omega (arith, l))
after_three (suc zero) l u = refl
after_three (suc (suc zero)) l u = refl
after_three (suc (suc (suc k))) l u = absurd (omega (arith, u))

three : (live : List Numbered) (g : Numbered) → AllThree live → Contains live g → length (with_zeros (line_marks in_along) g.vector) ≡ 3
three live g h c =
    eqb-true (length (with_zeros (line_marks in_along) g.vector)) 3 (member_of (λ g. has_three g ≡ true) live g (list_all-true has_three live h) c)

image_wide : (rows : List (List ℚ)) (next : List ℚ) (made : LiveList) (k : ℕ) (g : Numbered) → 1 ≤ k → k ≤ 2 →
    rows ≡ map (without (line_marks in_along)) (rows_in_use 2 (standing in_along)) → next ≡ without (line_marks in_along) (cut_row (standing in_along) k) →
    made ≡ list → Contains made.live g ⊎ Contains (step rows made next).live g → length (with_zeros (line_marks in_along) g.vector) ≡ 3
image_wide rows next made k g l u e f m (inl h) = three list.live g live_three (subst (λ (ls : LiveList). Contains ls.live g) m h)
image_wide rows next made k g l u e f m (inr h) =
    three (after_cut k) g (after_three k l u)
    (subst (λ (ls : LiveList). Contains (step (map (without (line_marks in_along)) (rows_in_use 2 (standing in_along))) ls
    (without (line_marks in_along) (cut_row (standing in_along) k))).live g) m
    (subst (λ (r : List ℚ). Contains (step (map (without (line_marks in_along)) (rows_in_use 2 (standing in_along))) made r).live g) f
    (subst (λ (rs : List (List ℚ)). Contains (step rs made next).live g) e h)))

added_wide : (rows : List (List ℚ)) (next : List ℚ) (family : Family) (made : LiveList) (g : Numbered) → IsAddition in_along rows next made family →
    Contains made.live g ⊎ Contains (step rows made next).live g → length (filled in_along family g.vector) ≡ 3
unfolding whole
added_wide rows next family made g (IsAddition.of_image k l u e f m) h = image_wide rows next made k g l u e f m h
added_wide rows next family made g (IsAddition.of_cone all c over) h = absurd (Contains-nil next c)
added_wide rows next family made g (IsAddition.of_base c known all base over) h = go h
  where
    same : c ≡ ones
    same = known_is c known

    wide : AreWide 3 rows
    wide = rows_wide rows (subst (λ (d : List ℚ). All (IsBaseRow half_plane d) rows) same all)

    longer : AreWide 3 (rows ++ next ∷ [])
    longer = record {
      wide = All-append (HasWidth 3) rows (next ∷ []) wide.wide
          (All-cons (HasWidth 3) next [] (row_wide next (subst (λ (d : List ℚ). IsBaseRow half_plane d next) same base)) (All-nil (HasWidth 3)));
    }

    go : Contains made.live g ⊎ Contains (step rows made next).live g → length g.vector ≡ 3
    go (inl h) = live_wide rows made g wide over h
    go (inr h) = live_wide (rows ++ next ∷ []) (step rows made next) g longer (generator_laws.grows 3 rows made next over) h

-- ---- no product with the short point
abbrev short_point : List ℚ
short_point = n 4 ∷ n 1 ∷ []

abbrev starts_with_zero : Numbered → Bool
starts_with_zero g = same_ℚ zero_ℚ (entry g.vector 1)

zeros_first : list_all starts_with_zero (standing in_along).list.live ≡ true
unfolding whole fraction gcd ◌+ℚ◌ ◌*ℚ◌ neg_ℚ inverse_ℚ le_ℚ
zeros_first = refl

zero_first : (g : Numbered) → Contains (standing in_along).list.live g → zero_ℚ ≡ entry g.vector 1
zero_first g c =
    equal zero_ℚ (entry g.vector 1)
    (member_of (λ g. starts_with_zero g ≡ true) (standing in_along).list.live g (list_all-true starts_with_zero (standing in_along).list.live zeros_first) c)

turned_back : (d : List ℚ) → short_point ≡ negated d → leading d ≡ one_ℚ → ⊥
unfolding whole fraction gcd ◌+ℚ◌ ◌*ℚ◌ neg_ℚ inverse_ℚ le_ℚ
turned_back d e h =
    let same : negated short_point ≡ d = ap negated e ∙ negated_twice d in
    apart (minus 4) one_ℚ refl (equal (minus 4) (leading (negated short_point)) refl ∙ ap leading same ∙ h)

no_start : IsStartOrGenerator in_along short_point → ⊥
unfolding whole fraction gcd ◌+ℚ◌ ◌*ℚ◌ neg_ℚ inverse_ℚ le_ℚ
no_start (IsStartOrGenerator.start t (IsBaseStart.origin e f)) = apart (n 4) zero_ℚ refl (ap (λ (v : List ℚ). entry v 1) e)
no_start (IsStartOrGenerator.start t (IsBaseStart.live g live e)) =
    apart zero_ℚ (n 4) refl (zero_first g live ∙ ap (λ (v : List ℚ). entry v 1) e)
no_start (IsStartOrGenerator.start t (IsBaseStart.side s e)) = apart (n 4) one_ℚ refl (equal (n 4) (leading short_point) refl ∙ s.starts)
no_start (IsStartOrGenerator.start t (IsBaseStart.other_side d s e f)) = turned_back d e s.starts
no_start (IsStartOrGenerator.generator (inl (g, live, same))) =
    apart (n 4) zero_ℚ refl (ap (λ (v : List ℚ). entry v 1) same ∙ sym (zero_first g live))
no_start (IsStartOrGenerator.generator (inr (rows, next, family, made, g, add, h, same))) =
    let long : 2 ≡ 3 = ap (λ (v : List ℚ). length v) same ∙ added_wide rows next family made g add h in omega (arith, long)

no_product : AreMultiplied in_along row short_point → ⊥
unfolding whole
no_product (AreMultiplied.bounds e h) = let many : 3 ≡ 2 = ap (λ (v : List ℚ). length v) e in omega (arith, many)
no_product (AreMultiplied.duality known h) = let many : 3 ≡ 2 = ap (λ (v : List ℚ). length v) (known_is row known) in omega (arith, many)
no_product (AreMultiplied.last_weight c g rows known all is e f) =
    let many : 3 ≡ 2 = ap (λ (v : List ℚ). length v) e ∙ ap (λ (y : List ℚ). length (one_ℚ ∷ negated (front y))) (known_is c known) in omega (arith, many)
no_product (AreMultiplied.side h b) =
    let many : 3 ≡ 2 = member_of (HasWidth 2) (normals half_plane) row (wide_test 2 (normals half_plane) refl).wide h in omega (arith, many)
no_product (AreMultiplied.of_objective h b) =
    let many : 3 ≡ 2 = member_of (HasWidth 2) (objectives half_plane) row (wide_test 2 (objectives half_plane) refl).wide h in omega (arith, many)
no_product (AreMultiplied.cone h b) = Contains-nil row h
no_product (AreMultiplied.shares i low high e h) = let many : 3 ≡ 0 = ap (λ (v : List ℚ). length v) e in omega (arith, many)
no_product (AreMultiplied.across h b) = no_start b

pub line_examples : LineExamples
line_examples = record {
  with_line = with_line;
  no_line = no_line;
  elimination = elimination;
  full_elimination = full_elimination;
  licence = licence;
  pair = pair;
  full_pair = full_pair;
  value = value;
  full_value = full_value;
  product = product;
  no_product = no_product;
}
