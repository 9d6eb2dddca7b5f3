-- The worked sums of products, computed.
use Rattle.std.proofs.Common.{◌≡◌, ℕ, false, true≢false, List, [], ◌∷◌, length, take, refl, sym, ap, ◌∙◌, subst, arith, ◌⊎◌, inl, inr, Option, Some}
use Rattle.std.proofs.Math.Dec.{lit≤, lit<}
use Rattle.std.proofs.lemmas.List.Elements.{All-nil, All-cons, All-take}
use Rattle.exact_field.specs.Gcd.{gcd}
use Rattle.exact_field.specs.Rational.{ℚ, zero_ℚ, one_ℚ, whole, fraction, ◌+ℚ◌, ◌*ℚ◌, neg_ℚ, inverse_ℚ, le_ℚ}
use Rattle.exact_field.specs.declared.op.Op.TheVariants.{Mul}
use Rattle.exact_field.specs.Vector.{front}
use Rattle.polyhedra.specs.Exactness.{level}
use Rattle.polyhedra.specs.Negatives.{negated}
use Rattle.polyhedra.specs.Vectors.{AtLeastZero}
use Rattle.polyhedra.proofs.Lists.{Nonneg, HasWidth, Contains-here, Contains-cases, Contains-nil}
use Rattle.polyhedra.proofs.Members.{member_of}
use Rattle.polyhedra.proofs.Tests.{same_vector_is}
use Rattle.tableaux.specs.Table.{System, table_of}
use Rattle.tableaux.specs.Dictionary.{IsFullDictionaryOf, solution}
use Rattle.frac128.specs.declared.vectors.Spot.{Spot}
use Rattle.vlp_problem.specs.Sides.{side_bounds}
use Rattle.upper_image.specs.UpperImage.{normals, objectives}
use Rattle.upper_image.specs.Spots.{column, dense}
use Rattle.vlp_problem.specs.Values.{cone_vectors}
use Rattle.deriv_log.specs.declared.entry.Entry.{Entry}
use Rattle.deriv_log.specs.declared.entry.Entry.TheVariants.{Point, Ray, Whole, Line}
use Rattle.deriv_log.specs.declared.licence.Place.TheVariants.{Elim}
use Rattle.lp_form.specs.Programs.{side_total, interior_system, w_of}
use Rattle.overflows.specs.Base.{IsSolutionOff, IsBaseCut, IsBaseNormal, IsBaseWeight, weight_of}
use Rattle.overflows.specs.Examples.{plain, steep, generated, n, minus, half, is_few, ones, setting, at_start, bounds, large, OverflowsPlain, OverflowsSteep, SumExamples}
use Rattle.overflows.specs.Licence.{IsOverflow}
use Rattle.overflows.specs.Products.{IsBaseU, IsBaseX, IsTrailEntry, AreSharesOf, AreBaseShares, IsRowOrWeight, IsStartOrGenerator, AreMultiplied}
use Rattle.overflows.specs.Settings.{vector_of}
use Rattle.overflows.specs.Steps.{operation}
use Rattle.overflows.specs.Trails.{IsMuOff, IsBaseTrail}
use Rattle.overflows.proofs.FirstCut.{first_cut}
use Rattle.overflows.proofs.Given.{overflow_laws}
use Rattle.overflows.proofs.Pivots.{Pivots, table_after}
use Rattle.overflows.proofs.Values.{wide_test}
use Rattle.overflows.proofs.WorkedBase.{full_after, choice, rows_are, second, second_is, side}

-- ---- sums that may be formed
weighed : OverflowsPlain (Elim [] [] 0 1 2) (operation Mul (n 1) half)
unfolding whole fraction gcd ◌+ℚ◌ ◌*ℚ◌ neg_ℚ inverse_ℚ le_ℚ
weighed = overflow_laws.term is_few (setting plain ones) ones (half ∷ half ∷ []) 1 (operation Mul (n 1) half) refl
    (inl (AreMultiplied.duality refl (ones, refl, inl (record { at = 3; value = n 1 } ∷ [], [], first_cut)))) (lit≤ tt) (lit≤ tt) (lit≤ tt)
    (inl (refl, refl, refl, refl))

last_weight : OverflowsSteep (Elim [] [] 0 2 2) (operation Mul (minus 1) (n 1))
unfolding whole fraction gcd ◌+ℚ◌ ◌*ℚ◌ neg_ℚ inverse_ℚ le_ℚ
last_weight = overflow_laws.term is_few (setting steep ones) (n 1 ∷ minus 1 ∷ []) (n 1 ∷ n 1 ∷ []) 2 (operation Mul (minus 1) (n 1)) refl
    (inl (AreMultiplied.last_weight ones second.vector _ refl rows_are second_is (same_vector_is (n 1 ∷ minus 1 ∷ []) (one_ℚ ∷ negated (front ones)) refl) refl))
    (lit≤ tt) (lit≤ tt) (lit≤ tt) (inl (refl, refl, refl, refl))

of_side : OverflowsSteep (Elim [] [] 0 1 2) (operation Mul (n 2) (n 2))
unfolding whole fraction gcd ◌+ℚ◌ ◌*ℚ◌ neg_ℚ inverse_ℚ le_ℚ
of_side = overflow_laws.term is_few (setting steep ones) (n 2 ∷ n 1 ∷ []) (n 2 ∷ n 2 ∷ []) 1 (operation Mul (n 2) (n 2)) refl
    (inl (AreMultiplied.side (Contains-here (n 2 ∷ n 1 ∷ []) ((n 1 ∷ n 2 ∷ []) ∷ (n 1 ∷ n 0 ∷ []) ∷ (n 0 ∷ n 1 ∷ []) ∷ []) (n 2 ∷ n 1 ∷ []) refl) (IsBaseX.choice choice))) (lit≤ tt) (lit≤ tt) (lit≤ tt)
    (inl (refl, refl, refl, refl))

of_objective : OverflowsSteep (Elim [] [] 0 2 2) (operation Mul (minus 2) (n 2))
unfolding whole fraction gcd ◌+ℚ◌ ◌*ℚ◌ neg_ℚ inverse_ℚ le_ℚ
of_objective = overflow_laws.term is_few (setting steep ones) (n 2 ∷ minus 2 ∷ []) (n 2 ∷ n 2 ∷ []) 2 (operation Mul (minus 2) (n 2)) refl
    (inl (AreMultiplied.of_objective (Contains-here (n 2 ∷ minus 2 ∷ []) ((n 1 ∷ n 1 ∷ []) ∷ []) (n 2 ∷ minus 2 ∷ []) refl) (IsBaseX.choice choice))) (lit≤ tt) (lit≤ tt) (lit≤ tt)
    (inl (refl, refl, refl, refl))

across : OverflowsPlain (Elim [] [] 0 1 2) (operation Mul half (n 1))
unfolding whole fraction gcd ◌+ℚ◌ ◌*ℚ◌ neg_ℚ inverse_ℚ le_ℚ
across = overflow_laws.term is_few (setting plain ones) (half ∷ half ∷ []) (n 1 ∷ n 0 ∷ []) 1 (operation Mul half (n 1)) refl
    (inl (AreMultiplied.across (IsRowOrWeight.weight (ones, refl, inl (record { at = 3; value = n 1 } ∷ [], [], first_cut))) (IsStartOrGenerator.start false side)))
    (lit≤ tt) (lit≤ tt) (lit≤ tt) (inl (refl, refl, refl, refl))

-- ---- the multipliers of an interior vector
abbrev interior : System
interior = interior_system generated.objs generated.cone generated.duality

abbrev interior_pivots : Pivots
interior_pivots = (0, 1) ∷ (1, 4) ∷ (2, 2) ∷ (3, 6) ∷ []

abbrev interior_basis : List ℕ
interior_basis = 1 ∷ 4 ∷ 2 ∷ 6 ∷ []

interior_full : IsFullDictionaryOf interior interior_basis (table_after (table_of interior) interior_pivots)
unfolding whole fraction gcd ◌+ℚ◌ ◌*ℚ◌ neg_ℚ inverse_ℚ le_ℚ
interior_full = full_after interior interior_basis interior_pivots refl refl refl refl refl refl

abbrev z : List ℚ
z = n 0 ∷ n 1 ∷ n 0 ∷ n 1 ∷ n 0 ∷ n 1 ∷ []

interior_read : IsSolutionOff interior z
unfolding whole fraction gcd ◌+ℚ◌ ◌*ℚ◌ neg_ℚ inverse_ℚ le_ℚ
interior_read = record {
  basis = interior_basis;
  dictionary = table_after (table_of interior) interior_pivots;
  full = interior_full;
  reads = same_vector_is z (solution interior interior_basis (table_after (table_of interior) interior_pivots)) refl;
}

abbrev mu : List ℚ
mu = n 0 ∷ n 1 ∷ []

mu_off : IsMuOff generated 2 mu
unfolding whole
mu_off = (z, interior_read, refl)

mu_shares : AreBaseShares (at_start generated ones) mu
unfolding whole le_ℚ
mu_shares = AreBaseShares.mu mu_off (All-cons Nonneg (n 0) (n 1 ∷ []) refl (All-cons Nonneg (n 1) [] refl (All-nil Nonneg)))

shares : IsOverflow is_few (at_start generated ones) (Elim [] [] 0 2 2) (operation Mul (n 2) (n 1))
unfolding whole fraction gcd ◌+ℚ◌ ◌*ℚ◌ neg_ℚ inverse_ℚ le_ℚ
shares = overflow_laws.term is_few (at_start generated ones) (n 1 ∷ n 2 ∷ []) mu 2 (operation Mul (n 2) (n 1)) refl
    (inl (AreMultiplied.shares 1 (lit≤ tt) (lit≤ tt) (same_vector_is (n 1 ∷ n 2 ∷ []) (column (cone_vectors generated.cone) 1) refl) mu_shares))
    (lit≤ tt) (lit≤ tt) (lit≤ tt) (inl (refl, refl, refl, refl))

-- ---- and those that are none
abbrev below : List ℚ
below = n 0 ∷ minus 1 ∷ []

negative : AtLeastZero below → ⊥
unfolding whole le_ℚ
negative h = true≢false (sym (h 1 zero_ℚ (lit< tt)))

no_shares_of : (e : Entry) (m : List ℚ) → IsTrailEntry (at_start generated ones) e → AreSharesOf generated e m → ⊥
no_shares_of e m (IsTrailEntry.there h) is = Contains-nil e h
no_shares_of e m (IsTrailEntry.next c known h) is = go e h is
  where
    go : (e : Entry) → IsBaseTrail generated c [] (e ∷ []) → AreSharesOf generated e m → ⊥
    go (Point k y x) t h = true≢false (sym (t.meet [] (Point k y x) [] refl).order)
    go (Ray k y x) t h = true≢false (sym (t.meet [] (Ray k y x) [] refl).order)
    go (Whole y ray x) t h = true≢false (sym (t.meet [] (Whole y ray x) [] refl).order)
    go (Line d y ray x back l) t h = true≢false (sym (t.meet [] (Line d y ray x back l) [] refl).order)
    go e t h = h

no_shares : AreBaseShares (at_start generated ones) below → ⊥
unfolding whole
no_shares (AreBaseShares.of_entry e h is) = no_shares_of e below h is
no_shares (AreBaseShares.of_cut c w u v known cut is) = let many : 2 ≡ 0 = ap (λ (x : List ℚ). length x) is in omega (arith, many)
no_shares (AreBaseShares.mu off sign) = negative sign

-- ---- lists of other lengths
-- the row of a weight or of the trail has two entries, and that of row 0 three
abbrev Short : ℕ → Type 0
Short k = (k ≡ 0) ⊎ ((k ≡ 2) ⊎ (k ≡ 3))

weight_long : (g w : List ℚ) → length g ≡ 3 → w ≡ weight_of ones g → length w ≡ 2
unfolding whole
weight_long [] w l e = absurd (omega (arith, l))
weight_long (x ∷ g) w l e = ap (λ (y : List ℚ). length y) e

base_weight_long : (c w : List ℚ) → Some ones ≡ Some c → IsBaseWeight steep c w → length w ≡ 2
unfolding whole
base_weight_long c w known h =
    weight_long h.generator w h.is.extreme.member.wide (h.same ∙ ap (λ (o : Option (List ℚ)). weight_of (vector_of o) h.generator) (sym known))

normal_long : (c w : List ℚ) → Some ones ≡ Some c → IsBaseNormal steep c w → length w ≡ 2
unfolding whole
normal_long c w known (u, v, IsBaseCut.of_benson x read is parts) =
    ap (λ (y : List ℚ). length y) is ∙ ap (λ (y : List ℚ). length (w_of steep y)) read.0.reads
normal_long c w known (u, v, IsBaseCut.of_weight x h read parts) = base_weight_long c w known h

row_short : (row : List ℚ) → IsRowOrWeight (setting steep ones) row → Short (length row)
unfolding whole
row_short row (IsRowOrWeight.weight (c, known, inl h)) = inr (inl (normal_long c row known h))
row_short row (IsRowOrWeight.weight (c, known, inr h)) = inr (inl (base_weight_long c row known h))
row_short row (IsRowOrWeight.of_trail h) = absurd (Contains-nil row h)
row_short row (IsRowOrWeight.in_use h) = elim (Contains-cases (level 2) [] row h) [
  | inl e ↦ inr (inr (sym (ap (λ (y : List ℚ). length y) e)))
  | inr c ↦ absurd (Contains-nil row c)
]

-- what is multiplied are the bounds with multipliers of the sides, or a first list of such a length
abbrev IsKnown : List ℚ → List ℚ → Type 0
IsKnown xs ys = ((xs ≡ side_bounds steep) × IsBaseU (setting steep ones) ys) ⊎ Short (length xs)

known_or_short : (xs ys : List ℚ) → AreMultiplied (setting steep ones) xs ys → IsKnown xs ys
unfolding whole
known_or_short xs ys (AreMultiplied.bounds e h) = inl (e, h)
known_or_short xs ys (AreMultiplied.duality known h) = inr (inr (inl (sym (ap (λ (o : Option (List ℚ)). length (vector_of o)) known))))
known_or_short xs ys (AreMultiplied.last_weight c g rows known all is e f) =
    inr (inr (inl (ap (λ (y : List ℚ). length y) e ∙ sym (ap (λ (o : Option (List ℚ)). length (one_ℚ ∷ negated (front (vector_of o)))) known))))
known_or_short xs ys (AreMultiplied.side h x) =
    inr (inr (inl (member_of (HasWidth 2) (normals steep) xs (wide_test 2 (normals steep) refl).wide h)))
known_or_short xs ys (AreMultiplied.of_objective h x) =
    inr (inr (inl (member_of (HasWidth 2) (objectives steep) xs (wide_test 2 (objectives steep) refl).wide h)))
known_or_short xs ys (AreMultiplied.cone h y) = absurd (Contains-nil xs h)
known_or_short xs ys (AreMultiplied.shares i low high e h) = inr (inl (ap (λ (y : List ℚ). length y) e))
known_or_short xs ys (AreMultiplied.across h y) = inr (row_short xs h)

-- ---- the bounds are no multipliers
low_bound : AtLeastZero bounds → ⊥
unfolding whole le_ℚ
low_bound h = true≢false (sym (h 3 zero_ℚ (lit< tt)))

read_nonneg : (u : List Spot) (x : List ℚ) → AtLeastZero x → bounds ≡ dense (side_total steep) u → dense (side_total steep) u ≡ take (side_total steep) x → ⊥
read_nonneg u x h e f = low_bound (subst (λ (y : List ℚ). AtLeastZero y) (sym (e ∙ f)) (All-take Nonneg (side_total steep) x h))

no_multipliers : IsBaseU (setting steep ones) bounds → ⊥
no_multipliers (inl (c, w, u, v, known, IsBaseCut.of_benson x read is parts, e)) = read_nonneg u x read.1.at_least_zero e parts.dual
no_multipliers (inl (c, w, u, v, known, IsBaseCut.of_weight x h read parts, e)) = read_nonneg u x read.1.at_least_zero e parts.dual
no_multipliers (inr h) = low_bound h.1

no_square : AreMultiplied (setting steep ones) bounds bounds → ⊥
no_square h = go (known_or_short bounds bounds h)
  where
    go : IsKnown bounds bounds → ⊥
    go (inl b) = no_multipliers b.1
    go (inr (inl e)) = let many : 4 ≡ 0 = e in omega (arith, many)
    go (inr (inr (inl e))) = let many : 4 ≡ 2 = e in omega (arith, many)
    go (inr (inr (inr e))) = let many : 4 ≡ 3 = e in omega (arith, many)

no_number : AreMultiplied (setting steep ones) (large ∷ []) (large ∷ []) → ⊥
unfolding whole
no_number h = go (known_or_short (large ∷ []) (large ∷ []) h)
  where
    go : IsKnown (large ∷ []) (large ∷ []) → ⊥
    go (inl b) = let many : 1 ≡ 4 = ap (λ (y : List ℚ). length y) b.0 in omega (arith, many)
    go (inr (inl e)) = let many : 1 ≡ 0 = e in omega (arith, many)
    go (inr (inr (inl e))) = let many : 1 ≡ 2 = e in omega (arith, many)
    go (inr (inr (inr e))) = let many : 1 ≡ 3 = e in omega (arith, many)

pub sum_examples : SumExamples
sum_examples = record {
  weighed = weighed;
  last_weight = last_weight;
  of_side = of_side;
  of_objective = of_objective;
  shares = shares;
  no_shares = no_shares;
  across = across;
  no_square = no_square;
  no_number = no_number;
}
