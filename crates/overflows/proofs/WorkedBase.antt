-- The worked choices, rays, rows and weights, computed.
use Rattle.std.proofs.Common.{◌≡◌, ◌≢◌, ℕ, zero, suc, ◌-◌, ◌<◌, Bool, true, false, true≢false, List, [], ◌∷◌, ◌++◌, length, refl, sym, ap, ◌∙◌, subst, arith, slice_index_or, slice_get, inl, inr, negsuc, All, Contains, Option, None, Some}
use Rattle.std.specs.Prelude.{◌==◌}
use Rattle.std.specs.List.{list_all}
use Rattle.std.proofs.Math.Dec.{lit≤, lit<}
use Rattle.std.proofs.lemmas.List.Elements.{All-nil, All-cons}
use Rattle.exact_field.specs.Gcd.{gcd}
use Rattle.exact_field.specs.Rational.{ℚ, zero_ℚ, one_ℚ, whole, fraction, ◌+ℚ◌, ◌*ℚ◌, neg_ℚ, inverse_ℚ, le_ℚ, ◌≤ℚ◌, ◌<ℚ◌}
use Rattle.exact_field.specs.Vector.{entry, dot}
use Rattle.exact_field.specs.declared.op.Op.TheVariants.{Mul, Div}
use Rattle.polyhedra.specs.Dependence.{AreCorners}
use Rattle.polyhedra.specs.DoubleDescription.{IsNormed, leading, magnitude}
use Rattle.polyhedra.specs.Hull.{IsMultiple}
use Rattle.polyhedra.specs.Inequality.{Inequality}
use Rattle.polyhedra.specs.LiveList.{Numbered, starting}
use Rattle.polyhedra.specs.Negatives.{negated}
use Rattle.polyhedra.proofs.Algebra.{mul_zero}
use Rattle.polyhedra.proofs.Laws.{mul_one}
use Rattle.polyhedra.proofs.Lists.{Contains-here, Contains-there, Contains-nil}
use Rattle.polyhedra.proofs.Negatives.{negated_twice}
use Rattle.polyhedra.proofs.Tests.{both_true, same_vector_is}
use Rattle.tableaux.specs.Table.{System, at, table_of, right_column, equation_count}
use Rattle.tableaux.specs.Dictionary.{IsDictionary, IsDictionaryOf, IsFullDictionaryOf, multipliers, first_multipliers}
use Rattle.tableaux.proofs.Eliminated.{starts}
use Rattle.vlp_problem.specs.Sides.{sides, IsFeasible, IsRecession}
use Rattle.deriv_log.specs.declared.entry.Entry.{Entry}
use Rattle.deriv_log.specs.declared.entry.Entry.TheVariants.{Point, Ray, Whole, Line}
use Rattle.deriv_log.specs.declared.licence.Family.TheVariants.{Exchanged}
use Rattle.deriv_log.specs.declared.licence.Place.TheVariants.{Pivot, Elim, Pair, Exchange, Scale}
use Rattle.vlp_problem.specs.declared.program.Program.TheVariants.{Weight}
use Rattle.lp_form.specs.Programs.{feasible_system, weight_system}
use Rattle.overflows.specs.Base.{AreMultipliersOff, AreFirstMultipliersOff, IsBaseChoice, IsBaseRay, IsBaseRow, IsBaseWeight, IsBaseStart, IsFlat, IsSide, IsGeneratorOf, image_of, weight_of}
use Rattle.overflows.specs.Dictionaries.{IsAllowed, AreStartRows, AreElimRows, IsElimTable, IsProgramStep}
use Rattle.overflows.specs.Examples.{steep, n, minus, half, is_few, ones, trail_of, setting, at_start, base_rows, ray_row, OverflowsSteep, BaseExamples}
use Rattle.overflows.specs.Generators.{IsMadeOver, IsAddition, IsPairStep}
use Rattle.overflows.specs.Products.{IsTrailEntry, IsChoiceOf, IsBaseX}
use Rattle.overflows.specs.Quotients.{IsScaled, IsDivisor}
use Rattle.overflows.specs.Settings.{vector_of}
use Rattle.overflows.specs.Steps.{operation, exchange_steps, value_steps}
use Rattle.geo_duality.specs.Rows.{exchange_row}
use Rattle.overflows.specs.Trails.{IsBaseTrail}
use Rattle.overflows.proofs.Given.{not_held, overflow_laws}
use Rattle.overflows.proofs.Making.{generator_laws}
use Rattle.overflows.proofs.Pivots.{Pivots, table_after, pivots_keep, unnamed, no_column, below, past, named, are_pivots, basis_after, are_below, are_named}
use Rattle.overflows.proofs.Values.{equal, apart, wide_test, step_is}
use Rattle.overflows.proofs.Worked.{start_dictionary}

-- ---- what is read off after some pivots
-- the table after the pivots is a dictionary at a full basis, where all of this computes
pub full_after : (s : System) (basis : List ℕ) (pivots : Pivots) → list_all (λ r. length r == right_column s) (table_of s) ≡ true →
    are_pivots (right_column s) (length (table_of s)) (unnamed (equation_count s)) (table_of s) pivots ≡ true → basis_after (unnamed (equation_count s)) pivots ≡ basis →
    are_below (right_column s) basis ≡ true → are_named basis ≡ true → length basis ≡ equation_count s →
    IsFullDictionaryOf s basis (table_after (table_of s) pivots)
full_after s basis pivots wide allowed same under all_named many = record {
  dictionary = record {
    columns = record {
      within = λ i l. below (right_column s) basis (i - 1) (omega arith) under;
      equations_only = λ i l. past basis (i - 1) (omega (arith, l, many));
    };
    dictionary = subst (λ (b : List ℕ). IsDictionary (right_column s) (table_of s) b (table_after (table_of s) pivots)) same
        (pivots_keep (right_column s) (table_of s) (wide_test (right_column s) (table_of s) wide) (unnamed (equation_count s)) (table_of s) pivots
        (starts (right_column s) (table_of s) (unnamed (equation_count s)) (wide_test (right_column s) (table_of s) wide) (λ i. no_column (equation_count s) (i - 1)))
        allowed);
  };
  full = λ i l u. named basis (i - 1) all_named (omega (arith, l, u, many));
}

-- ---- the choice
abbrev corner : List ℚ
corner = n 2 ∷ n 2 ∷ []

abbrev feasible : System
feasible = feasible_system steep

abbrev feasible_pivots : Pivots
feasible_pivots = (0, 1) ∷ (1, 2) ∷ []

feasible_full : IsFullDictionaryOf feasible (1 ∷ 2 ∷ []) (table_after (table_of feasible) feasible_pivots)
unfolding whole fraction gcd ◌+ℚ◌ ◌*ℚ◌ neg_ℚ inverse_ℚ le_ℚ
feasible_full = full_after feasible (1 ∷ 2 ∷ []) feasible_pivots refl refl refl refl refl refl

corner_read : AreMultipliersOff feasible corner
unfolding whole fraction gcd ◌+ℚ◌ ◌*ℚ◌ neg_ℚ inverse_ℚ le_ℚ
corner_read = record {
  basis = 1 ∷ 2 ∷ [];
  dictionary = table_after (table_of feasible) feasible_pivots;
  full = feasible_full;
  reads = same_vector_is corner (multipliers feasible (table_after (table_of feasible) feasible_pivots)) refl;
}

-- each of the sides passes its test
abbrev passes : (Inequality → Bool) → List Inequality → Bool
passes test all = list_all test all

all_pass : (P : Inequality → Type 0) (test : Inequality → Bool) → ((e : Inequality) → test e ≡ true → P e) → (all : List Inequality) → passes test all ≡ true → All P all
all_pass P test h [] k = All-nil P
all_pass P test h (e ∷ all) k =
    let b : (test e ≡ true) × (list_all test all ≡ true) = both_true (test e) (list_all test all) k in
    All-cons P e all (h e b.0) (all_pass P test h all b.1)

corner_feasible : IsFeasible steep corner
unfolding whole fraction gcd ◌+ℚ◌ ◌*ℚ◌ neg_ℚ inverse_ℚ le_ℚ
corner_feasible = record { width = refl; meets = all_pass (λ s. s.bound ≤ℚ dot s.normal corner) (λ s. le_ℚ s.bound (dot s.normal corner)) (λ s h. h) (sides steep) refl }

pub choice : IsBaseChoice steep corner
unfolding whole
choice = record { feasible = corner_feasible; read = inl (corner, corner_read, refl) }

-- (0, -7) fails the fourth side, as a point and as a direction
abbrev low : List ℚ
low = n 0 ∷ minus 7 ∷ []

not_feasible : IsFeasible steep low → ⊥
unfolding whole fraction gcd ◌+ℚ◌ ◌*ℚ◌ neg_ℚ inverse_ℚ le_ℚ
not_feasible h = true≢false (sym (h.meets 3 (record { normal = []; bound = zero_ℚ }) (lit< tt)))

no_recession : IsRecession steep low → ⊥
unfolding whole fraction gcd ◌+ℚ◌ ◌*ℚ◌ neg_ℚ inverse_ℚ le_ℚ
no_recession h = true≢false (sym (h.meets 3 (record { normal = []; bound = zero_ℚ }) (lit< tt)))

-- ---- the ray
abbrev up : List ℚ
up = n 0 ∷ half ∷ []

abbrev unit_weight : List ℚ
unit_weight = n 1 ∷ n 0 ∷ []

abbrev weighed : System
weighed = weight_system steep unit_weight

-- w_2, w_1, the artificial column of the third equation, and the third u
abbrev weighed_pivots : Pivots
weighed_pivots = (3, 6) ∷ (1, 5) ∷ (2, 11) ∷ (0, 3) ∷ []

abbrev weighed_basis : List ℕ
weighed_basis = 3 ∷ 5 ∷ 11 ∷ 6 ∷ []

weighed_full : IsFullDictionaryOf weighed weighed_basis (table_after (table_of weighed) weighed_pivots)
unfolding whole fraction gcd ◌+ℚ◌ ◌*ℚ◌ neg_ℚ inverse_ℚ le_ℚ
weighed_full = full_after weighed weighed_basis weighed_pivots refl refl refl refl refl refl

abbrev ray_multipliers : List ℚ
ray_multipliers = n 0 ∷ half ∷ minus 1 ∷ half ∷ []

ray_read : AreFirstMultipliersOff weighed ray_multipliers
unfolding whole fraction gcd ◌+ℚ◌ ◌*ℚ◌ neg_ℚ inverse_ℚ le_ℚ
ray_read = record {
  basis = weighed_basis;
  dictionary = table_after (table_of weighed) weighed_pivots;
  full = weighed_full;
  reads = same_vector_is ray_multipliers (first_multipliers weighed (table_after (table_of weighed) weighed_pivots)) refl;
}

up_recedes : IsRecession steep up
unfolding whole fraction gcd ◌+ℚ◌ ◌*ℚ◌ neg_ℚ inverse_ℚ le_ℚ
up_recedes = record { width = refl; meets = all_pass (λ s. zero_ℚ ≤ℚ dot s.normal up) (λ s. le_ℚ zero_ℚ (dot s.normal up)) (λ s h. h) (sides steep) refl }

pub ray : IsBaseRay steep up
unfolding whole
ray = record { recedes = up_recedes; weight = unit_weight; wide = refl; multipliers = ray_multipliers; read = ray_read; same = refl }

-- ---- entries of a trail that has none
no_choice_of : (e : Entry) (x : List ℚ) → IsTrailEntry (at_start steep ones) e → IsChoiceOf steep e x → ⊥
no_choice_of e x (IsTrailEntry.there h) is = Contains-nil e h
no_choice_of e x (IsTrailEntry.next c known h) is = go e h is
  where
    go : (e : Entry) → IsBaseTrail steep c [] (e ∷ []) → IsChoiceOf steep e x → ⊥
    go (Point k y m) t h = true≢false (sym (t.meet [] (Point k y m) [] refl).order)
    go (Ray k y m) t h = true≢false (sym (t.meet [] (Ray k y m) [] refl).order)
    go (Whole y ray m) t h = true≢false (sym (t.meet [] (Whole y ray m) [] refl).order)
    go (Line d y ray m back l) t h = true≢false (sym (t.meet [] (Line d y ray m back l) [] refl).order)
    go e t h = h

no_x : IsBaseX (at_start steep ones) low → ⊥
no_x (IsBaseX.choice h) = not_feasible h.feasible
no_x (IsBaseX.ray h) = no_recession h.recedes
no_x (IsBaseX.of_entry e h is) = no_choice_of e low h is

-- ---- rows
choice_row_is : IsBaseRow steep ones (minus 4 ∷ minus 1 ∷ n 4 ∷ [])
unfolding whole fraction gcd ◌+ℚ◌ ◌*ℚ◌ neg_ℚ inverse_ℚ le_ℚ
choice_row_is = IsBaseRow.of_choice corner choice (same_vector_is (minus 4 ∷ minus 1 ∷ n 4 ∷ []) (exchange_row ones (image_of steep corner) true) refl)

first_direction_is : IsBaseRow steep ones (n 1 ∷ n 0 ∷ n 0 ∷ [])
unfolding whole fraction gcd ◌+ℚ◌ ◌*ℚ◌ neg_ℚ inverse_ℚ le_ℚ
first_direction_is = IsBaseRow.of_cone (n 1 ∷ n 0 ∷ []) (1, lit≤ tt, lit≤ tt, refl)
    (same_vector_is (n 1 ∷ n 0 ∷ n 0 ∷ []) (exchange_row ones (n 1 ∷ n 0 ∷ []) false) refl)

second_direction_is : IsBaseRow steep ones (minus 1 ∷ n 0 ∷ n 1 ∷ [])
unfolding whole fraction gcd ◌+ℚ◌ ◌*ℚ◌ neg_ℚ inverse_ℚ le_ℚ
second_direction_is = IsBaseRow.of_cone (n 0 ∷ n 1 ∷ []) (2, lit≤ tt, lit≤ tt, refl)
    (same_vector_is (minus 1 ∷ n 0 ∷ n 1 ∷ []) (exchange_row ones (n 0 ∷ n 1 ∷ []) false) refl)

pub rows_are : All (IsBaseRow steep ones) base_rows
rows_are =
    All-cons (IsBaseRow steep ones) (minus 4 ∷ minus 1 ∷ n 4 ∷ []) ((n 1 ∷ n 0 ∷ n 0 ∷ []) ∷ (minus 1 ∷ n 0 ∷ n 1 ∷ []) ∷ []) choice_row_is
    (All-cons (IsBaseRow steep ones) (n 1 ∷ n 0 ∷ n 0 ∷ []) ((minus 1 ∷ n 0 ∷ n 1 ∷ []) ∷ []) first_direction_is
    (All-cons (IsBaseRow steep ones) (minus 1 ∷ n 0 ∷ n 1 ∷ []) [] second_direction_is (All-nil (IsBaseRow steep ones))))

pub ray_row_is : IsBaseRow steep ones ray_row
unfolding whole fraction gcd ◌+ℚ◌ ◌*ℚ◌ neg_ℚ inverse_ℚ le_ℚ
ray_row_is = IsBaseRow.of_ray up ray (same_vector_is ray_row (exchange_row ones (image_of steep up) false) refl)

no_row : IsBaseRow steep ones (minus 4 ∷ n 5 ∷ n 4 ∷ []) → ⊥
unfolding whole le_ℚ neg_ℚ
no_row (IsBaseRow.of_choice x h e) = apart (n 5) (neg_ℚ one_ℚ) refl (ap (λ (v : List ℚ). entry v 2) e)
no_row (IsBaseRow.of_ray r h e) = apart (n 5) zero_ℚ refl (ap (λ (v : List ℚ). entry v 2) e)
no_row (IsBaseRow.of_cone d (i, l, u, unit) e) =
    apart (n 5) zero_ℚ refl (ap (λ (v : List ℚ). entry v 2) (e ∙ ap (λ (y : List ℚ). exchange_row ones y false) unit))

-- ---- generators of base rows
abbrev generators : List (List ℚ)
generators = (n 0 ∷ minus 1 ∷ n 0 ∷ []) ∷ (n 1 ∷ n 0 ∷ n 1 ∷ []) ∷ (n 0 ∷ n 4 ∷ n 1 ∷ []) ∷ []

positive : (i : ℕ) → i < 3 → zero_ℚ <ℚ dot (slice_index_or base_rows i []) (slice_index_or generators i [])
unfolding whole fraction gcd ◌+ℚ◌ ◌*ℚ◌ neg_ℚ inverse_ℚ le_ℚ
positive zero l = refl
positive (suc zero) l = refl
positive (suc (suc zero)) l = refl
positive (suc (suc (suc i))) l = absurd (omega (arith, l))

zero_at : (i j : ℕ) → i < 3 → j < 3 → i ≢ j → dot (slice_index_or base_rows i []) (slice_index_or generators j []) ≡ zero_ℚ
unfolding whole fraction gcd ◌+ℚ◌ ◌*ℚ◌ neg_ℚ inverse_ℚ le_ℚ
zero_at zero zero l m h = absurd (h refl)
zero_at zero (suc zero) l m h = equal _ zero_ℚ refl
zero_at zero (suc (suc zero)) l m h = equal _ zero_ℚ refl
zero_at (suc zero) zero l m h = equal _ zero_ℚ refl
zero_at (suc zero) (suc zero) l m h = absurd (h refl)
zero_at (suc zero) (suc (suc zero)) l m h = equal _ zero_ℚ refl
zero_at (suc (suc zero)) zero l m h = equal _ zero_ℚ refl
zero_at (suc (suc zero)) (suc zero) l m h = equal _ zero_ℚ refl
zero_at (suc (suc zero)) (suc (suc zero)) l m h = absurd (h refl)
zero_at (suc (suc (suc i))) j l m h = absurd (omega (arith, l))
zero_at zero (suc (suc (suc j))) l m h = absurd (omega (arith, m))
zero_at (suc zero) (suc (suc (suc j))) l m h = absurd (omega (arith, m))
zero_at (suc (suc zero)) (suc (suc (suc j))) l m h = absurd (omega (arith, m))

are_corners : AreCorners 3 base_rows generators
unfolding whole
are_corners = record {
  rows_wide = wide_test 3 base_rows refl;
  vectors_wide = wide_test 3 generators refl;
  rows_many = refl;
  vectors_many = refl;
  positive = positive;
  zero_elsewhere = zero_at;
}

are_normed : All IsNormed generators
unfolding whole fraction gcd ◌+ℚ◌ ◌*ℚ◌ neg_ℚ inverse_ℚ le_ℚ
are_normed =
    All-cons IsNormed (n 0 ∷ minus 1 ∷ n 0 ∷ []) ((n 1 ∷ n 0 ∷ n 1 ∷ []) ∷ (n 0 ∷ n 4 ∷ n 1 ∷ []) ∷ []) (equal _ one_ℚ refl)
    (All-cons IsNormed (n 1 ∷ n 0 ∷ n 1 ∷ []) ((n 0 ∷ n 4 ∷ n 1 ∷ []) ∷ []) (equal _ one_ℚ refl)
    (All-cons IsNormed (n 0 ∷ n 4 ∷ n 1 ∷ []) [] (equal _ one_ℚ refl) (All-nil IsNormed)))

is_made : IsMadeOver 3 base_rows (starting 1 generators)
is_made = generator_laws.starts 3 base_rows generators are_corners are_normed

abbrev pub second : Numbered
second = record { number = 2; vector = n 1 ∷ n 0 ∷ n 1 ∷ [] }

second_live : Contains (starting 1 generators).live second
second_live =
    Contains-there (record { number = 1; vector = n 0 ∷ minus 1 ∷ n 0 ∷ [] }) (second ∷ record { number = 3; vector = n 0 ∷ n 4 ∷ n 1 ∷ [] } ∷ []) second
    (Contains-here second (record { number = 3; vector = n 0 ∷ n 4 ∷ n 1 ∷ [] } ∷ []) second refl)

pub second_is : IsGeneratorOf 3 base_rows second.vector
second_is = generator_laws.generator 3 base_rows (starting 1 generators) second
    (generator_laws.live 3 base_rows (starting 1 generators) are_corners.rows_wide is_made) second_live

pub weight : IsBaseWeight steep ones unit_weight
unfolding whole fraction gcd ◌+ℚ◌ ◌*ℚ◌ neg_ℚ inverse_ℚ le_ℚ
weight = record {
  rows = base_rows;
  base = rows_are;
  generator = second.vector;
  is = second_is;
  last = refl;
  same = same_vector_is unit_weight (weight_of ones second.vector) refl;
}

-- the second entry of a weight is 1 less the first
weight_ends : (g : List ℚ) → length g ≡ 3 → n 5 ∷ n 7 ∷ [] ≡ weight_of ones g → ⊥
unfolding whole fraction gcd ◌+ℚ◌ ◌*ℚ◌ neg_ℚ inverse_ℚ le_ℚ
weight_ends [] l e = omega (arith, l)
weight_ends (x ∷ g) l e =
    let five : n 5 ≡ x = ap (λ (v : List ℚ). entry v 1) e in
    apart (n 7) (minus 4) refl (ap (λ (v : List ℚ). entry v 2) e ∙ ap (λ (y : ℚ). entry (weight_of ones (y ∷ g)) 2) (sym five) ∙ equal _ (minus 4) refl)

no_weight : IsBaseWeight steep ones (n 5 ∷ n 7 ∷ []) → ⊥
unfolding whole
no_weight h = weight_ends h.generator h.is.extreme.member.wide h.same

-- ---- sides
abbrev across : List ℚ
across = n 1 ∷ n 0 ∷ []

spans : (z : List ℚ) → IsFlat 2 [] (2 ∷ []) z → IsMultiple across z
unfolding whole
spans [] h = let w = h.wide in absurd (omega (arith, w))
spans (x ∷ []) h = let w = h.wide in absurd (omega (arith, w))
spans (x ∷ y ∷ []) h = record { factor = x; same = two x (x *ℚ one_ℚ) y (x *ℚ zero_ℚ) (sym (mul_one x)) (h.at_places 0 2 (lit< tt) ∙ sym (mul_zero x)) }
  where
    two : (a a' b b' : ℚ) → a ≡ a' → b ≡ b' → a ∷ b ∷ [] ≡ a' ∷ b' ∷ []
    two a a' b b' e f = cc
spans (x ∷ y ∷ z ∷ more) h = let w = h.wide in absurd (omega (arith, w))

across_side : IsSide 2 [] across
unfolding whole fraction gcd ◌+ℚ◌ ◌*ℚ◌ neg_ℚ inverse_ℚ le_ℚ
across_side = record {
  starts = equal _ one_ℚ refl;
  places = 2 ∷ [];
  flat = record { wide = refl; at_places = All-cons (λ k. entry across k ≡ zero_ℚ) 2 [] refl (All-nil (λ k. entry across k ≡ zero_ℚ)); across = All-nil (λ w. dot w across ≡ zero_ℚ) };
  spans = spans;
}

pub side : IsBaseStart 2 (trail_of ones) across false
side = IsBaseStart.side across_side refl

abbrev outside : List ℚ
outside = n 5 ∷ n 7 ∷ []

turned_back : (d : List ℚ) → outside ≡ negated d → leading d ≡ one_ℚ → ⊥
unfolding whole fraction gcd ◌+ℚ◌ ◌*ℚ◌ neg_ℚ inverse_ℚ le_ℚ
turned_back d e h =
    let back : negated outside ≡ d = ap negated e ∙ negated_twice d in
    apart (minus 5) one_ℚ refl (equal (minus 5) (leading (negated outside)) refl ∙ ap leading back ∙ h)

no_side : IsBaseStart 2 (trail_of ones) outside false → ⊥
unfolding whole fraction gcd ◌+ℚ◌ ◌*ℚ◌ neg_ℚ inverse_ℚ le_ℚ
no_side (IsBaseStart.origin e f) = true≢false (sym f)
no_side (IsBaseStart.live g live e) = Contains-nil g live
no_side (IsBaseStart.side s e) = apart (n 5) one_ℚ refl (equal (n 5) (leading outside) refl ∙ s.starts)
no_side (IsBaseStart.other_side d s e f) = turned_back d e s.starts

-- ---- places
weight_dictionary : IsDictionaryOf weighed [] (table_of weighed)
unfolding whole fraction gcd ◌+ℚ◌ ◌*ℚ◌ neg_ℚ inverse_ℚ le_ℚ
weight_dictionary = start_dictionary weighed refl

weight_pivot : OverflowsSteep (Pivot (Weight unit_weight) [] 1 1 1) (operation Div (n 1) (n 2))
unfolding whole fraction gcd ◌+ℚ◌ ◌*ℚ◌ neg_ℚ inverse_ℚ le_ℚ
weight_pivot = overflow_laws.program is_few (setting steep ones) (Weight unit_weight) [] 1 1 1 (operation Div (n 1) (n 2)) refl refl (inl (ones, refl, weight)) (
  table_of weighed,
  weight_dictionary,
  inl (
    lit≤ tt,
    lit≤ tt,
    lit≤ tt,
    lit≤ tt,
    (
      2,
      lit≤ tt,
      lit≤ tt,
      inl (refl, (refl, equal (n 1) (at (table_of weighed) 1 2) refl, equal (n 2) (at (table_of weighed) 1 1) refl, refl)),
    ),
  ),
)

no_allowed : IsAllowed (setting steep ones) (Weight outside) → ⊥
no_allowed (inl (c, known, h)) =
    no_weight (subst (λ (d : List ℚ). IsBaseWeight steep d outside) (sym (ap (λ (v : Option (List ℚ)). vector_of v) known)) h)
no_allowed (inr h) = Contains-nil outside h

no_weight_pivot : OverflowsSteep (Pivot (Weight outside) [] 1 1 1) (operation Div (n 1) (n 2)) → ⊥
no_weight_pivot h =
    let o : IsProgramStep is_few (setting steep ones) (Weight outside) [] 1 1 1 (operation Div (n 1) (n 2)) = h.operands in
    no_allowed o.allowed

abbrev value : List ℚ
value = n 0 ∷ n 4 ∷ []

value_row : IsBaseRow steep ones (exchange_row ones value true)
unfolding whole fraction gcd ◌+ℚ◌ ◌*ℚ◌ neg_ℚ inverse_ℚ le_ℚ
value_row = IsBaseRow.of_choice corner choice (ap (λ (y : List ℚ). exchange_row ones y true) (same_vector_is value (image_of steep corner) refl))

exchange : OverflowsSteep (Exchange value true 1) (operation Mul (n 4) (n 1))
unfolding whole fraction gcd ◌+ℚ◌ ◌*ℚ◌ neg_ℚ inverse_ℚ le_ℚ
exchange = record {
  not_held = not_held is_few (operation Mul (n 4) (n 1)) refl refl;
  operands = record {
    c = ones;
    known = refl;
    base = value_row;
    operands = record { from_one = lit≤ tt; there = step_is (slice_get (exchange_steps ones value) 0) Mul (n 4) (n 1) refl };
  };
}

elimination : OverflowsSteep (Elim base_rows (0 ∷ 0 ∷ 0 ∷ []) 3 1 1) (operation Div (n 1) (minus 1))
unfolding whole fraction gcd ◌+ℚ◌ ◌*ℚ◌ neg_ℚ inverse_ℚ le_ℚ
elimination = overflow_laws.elimination is_few (setting steep ones) base_rows 3 base_rows 3 (0 ∷ 0 ∷ 0 ∷ []) 3 1 1 (operation Div (n 1) (minus 1)) refl refl
    (IsElimTable.alone (AreElimRows.of_start 3 (AreStartRows.of_base ones refl rows_are)) refl refl) refl (lit≤ tt) (lit≤ tt) (
      base_rows,
      starts 3 base_rows (0 ∷ 0 ∷ 0 ∷ []) (wide_test 3 base_rows refl) (λ i. no_column 3 (i - 1)),
      (3, lit≤ tt, lit≤ tt, inl (refl, (refl, equal (n 1) (at base_rows 3 3) refl, equal (minus 1) (at base_rows 3 1) refl, refl))),
      lit≤ tt,
      lit≤ tt,
      lit≤ tt,
      lit≤ tt,
    )

addition : OverflowsSteep (Pair Exchanged (base_rows ++ ray_row ∷ []) 2 0 1) (operation Mul (fraction (negsuc 2) 2) (n 1))
unfolding whole fraction gcd ◌+ℚ◌ ◌*ℚ◌ neg_ℚ inverse_ℚ le_ℚ
addition = record {
  not_held = not_held is_few (operation Mul (fraction (negsuc 2) 2) (n 1)) refl refl;
  operands = record {
    before = base_rows;
    last = ray_row;
    parted = refl;
    list = starting 1 generators;
    allowed = IsAddition.of_base ones refl rows_are ray_row_is is_made;
    operands = IsPairStep.value second second_live refl refl
        (record { from_one = lit≤ tt; there = step_is (slice_get (value_steps ray_row second.vector) 0) Mul (fraction (negsuc 2) 2) (n 1) refl });
  };
}

-- ---- norming by the value of the ray
up_scaled : IsScaled (setting steep ones) up
unfolding whole
up_scaled = IsScaled.read (record {
  program = Weight unit_weight;
  allowed = inl (ones, refl, weight);
  whole = ray_multipliers;
  read = inr (inr (inl ray_read));
  same = inr (inl refl);
})

one_is : one_ℚ ≡ magnitude (leading (image_of steep up))
unfolding whole fraction gcd ◌+ℚ◌ ◌*ℚ◌ neg_ℚ inverse_ℚ le_ℚ
one_is = equal one_ℚ (magnitude (leading (image_of steep up))) refl

norming : OverflowsSteep (Scale up 2) (operation Div half (n 1))
unfolding whole fraction gcd ◌+ℚ◌ ◌*ℚ◌ neg_ℚ inverse_ℚ le_ℚ
norming = overflow_laws.scale is_few (setting steep ones) up 2 (n 1) refl up_scaled (lit≤ tt) (lit≤ tt) (IsDivisor.ray ray one_is) refl

no_norming : IsDivisor (setting steep ones) up (n 3) → ⊥
unfolding whole fraction gcd ◌+ℚ◌ ◌*ℚ◌ neg_ℚ inverse_ℚ le_ℚ
no_norming (IsDivisor.own zero l u e) = omega (arith, l)
no_norming (IsDivisor.own (suc zero) l u e) = apart (n 3) (n 0) refl e
no_norming (IsDivisor.own (suc (suc zero)) l u e) = apart (n 3) half refl e
no_norming (IsDivisor.own (suc (suc (suc k))) l u e) = omega (arith, u)
no_norming (IsDivisor.given f same e) = true≢false (sym (ap (λ (v : Option (List ℚ)). is_given v) same))
  where
    is_given : Option (List ℚ) → Bool
    is_given None = false
    is_given (Some f) = true
no_norming (IsDivisor.ray r e) = apart (n 3) (magnitude (leading (image_of steep up))) refl e

pub base_examples : BaseExamples
base_examples = record {
  choice = choice;
  no_choice = λ h. not_feasible h.feasible;
  ray = ray;
  no_ray = λ h. no_recession h.recedes;
  no_x = no_x;
  rows_are = rows_are;
  ray_row_is = ray_row_is;
  no_row = no_row;
  weight = weight;
  no_weight = no_weight;
  side = side;
  no_side = no_side;
  weight_pivot = weight_pivot;
  no_weight_pivot = no_weight_pivot;
  exchange = exchange;
  elimination = elimination;
  addition = addition;
  norming = norming;
  no_norming = no_norming;
}
