-- The worked rows and generators of the image, computed.
use Rattle.std.proofs.Common.{◌≡◌, ◌≢◌, slice_index_or, ℕ, zero, suc, ◌+◌, ◌-◌, ◌<◌, ◌≤◌, Bool, true, false, true≢false, ◌&&◌, List, [], ◌∷◌, ◌++◌, length, map, refl, sym, ap, ap₂, ◌∙◌, subst, arith, All, Contains, slice_get, inl, not}
use Rattle.std.specs.Prelude.{◌==◌}
use Rattle.std.specs.List.{list_all}
use Rattle.std.proofs.Math.Dec.{lit≤, lit<}
use Rattle.std.proofs.lemmas.List.Elements.{All-nil, All-cons}
use Rattle.exact_field.specs.Gcd.{gcd}
use Rattle.exact_field.specs.Rational.{ℚ, zero_ℚ, one_ℚ, whole, fraction, ◌+ℚ◌, ◌*ℚ◌, neg_ℚ, inverse_ℚ, le_ℚ, ◌<ℚ◌}
use Rattle.exact_field.specs.Vector.{entry, dot}
use Rattle.exact_field.specs.declared.op.Op.TheVariants.{Mul, Div}
use Rattle.exact_field.specs.declared.op.Left.{Left}
use Rattle.lineality.specs.Steps.{list_without}
use Rattle.lineality.specs.Without.{without}
use Rattle.lineality.proofs.MeetingsWithout.{none_marked}
use Rattle.polyhedra.specs.Cone.{HasFullRank}
use Rattle.polyhedra.specs.Dependence.{AreCorners}
use Rattle.polyhedra.specs.DoubleDescription.{same_vector}
use Rattle.polyhedra.specs.Exactness.{level}
use Rattle.polyhedra.specs.LiveList.{Numbered, LiveList, LivePair, live_pairs}
use Rattle.polyhedra.proofs.Corners.{corners_determine}
use Rattle.polyhedra.proofs.Members.{member_of}
use Rattle.polyhedra.proofs.Tests.{both_true, list_all-true, same_vector_is}
use Rattle.tableaux.specs.Table.{at, row_of}
use Rattle.tableaux.proofs.Eliminated.{starts}
use Rattle.deriv_log.specs.declared.licence.Family.TheVariants.{Image}
use Rattle.deriv_log.specs.declared.licence.Place.TheVariants.{Elim, Pair}
use Rattle.log_rules.specs.Live.{rows_in_use, cut_row}
use Rattle.log_rules.specs.Proves.{AllMeet}
use Rattle.log_rules.proofs.LogMeets.{events_give_meets}
use Rattle.overflows.specs.Base.{IsBaseRow, trail_normals}
use Rattle.overflows.specs.Dictionaries.{AreStartRows, AreElimRows, IsElimTable}
use Rattle.overflows.specs.Examples.{plain, n, minus, half, is_few, ones}
use Rattle.overflows.specs.Generators.{IsAddition, IsPairStep, IsAdditionStep}
use Rattle.overflows.specs.ImageExamples.{quarter, three_quarters, chain, in_chain, image_rows, parallel_rows, added_rows, OverflowsChain, ImageExamples}
use Rattle.overflows.specs.Settings.{standing, line_marks}
use Rattle.overflows.specs.Steps.{operation, value_steps, pair_steps}
use Rattle.geo_duality.specs.Rows.{exchange_row}
use Rattle.overflows.proofs.Given.{not_held, overflow_laws}
use Rattle.overflows.proofs.Values.{equal, apart, wide_test, two_below, step_is}
use Rattle.overflows.proofs.Pivots.{no_column}
use Rattle.overflows.proofs.WorkedPairs.{known_is}

-- equal rows
abbrev same_rows : List (List ℚ) → List (List ℚ) → Bool
same_rows [] [] = true
same_rows [] (y ∷ ys) = false
same_rows (x ∷ xs) [] = false
same_rows (x ∷ xs) (y ∷ ys) = same_vector x y && same_rows xs ys

pub rows_are : (s t : List (List ℚ)) → same_rows s t ≡ true → s ≡ t
rows_are [] [] h = refl
rows_are [] (y ∷ ys) h = absurd (true≢false (sym h))
rows_are (x ∷ xs) [] h = absurd (true≢false (sym h))
rows_are (x ∷ xs) (y ∷ ys) h =
    let b : (same_vector x y ≡ true) × (same_rows xs ys ≡ true) = both_true (same_vector x y) (same_rows xs ys) h in
    ap₂ (λ (p : List ℚ) (q : List (List ℚ)). p ∷ q) (same_vector_is x y b.0) (rows_are xs ys b.1)

meets : AllMeet plain chain
unfolding whole fraction gcd ◌+ℚ◌ ◌*ℚ◌ neg_ℚ inverse_ℚ le_ℚ
meets = events_give_meets (λ q. true) plain chain refl

-- ---- eliminations
abbrev normal_rows : List (List ℚ)
normal_rows = (half ∷ half ∷ []) ∷ (n 0 ∷ n 1 ∷ []) ∷ (quarter ∷ three_quarters ∷ []) ∷ (n 0 ∷ n 1 ∷ []) ∷ []

of_normals : OverflowsChain (Elim normal_rows (0 ∷ 0 ∷ 0 ∷ 0 ∷ []) 3 1 1) (operation Div three_quarters quarter)
unfolding whole fraction gcd ◌+ℚ◌ ◌*ℚ◌ neg_ℚ inverse_ℚ le_ℚ
of_normals = record {
  not_held = not_held is_few (operation Div three_quarters quarter) refl refl;
  operands = inl (record {
    width = 2;
    columns = 2;
    dictionary = normal_rows;
    is = record {
      table = normal_rows;
      of_rows = IsElimTable.alone (AreElimRows.of_normals (rows_are normal_rows (trail_normals 2 chain) refl)) refl refl;
      is = starts 2 normal_rows (0 ∷ 0 ∷ 0 ∷ 0 ∷ []) (wide_test 2 normal_rows refl) (λ i. no_column 4 (i - 1));
    };
    one_each = refl;
    row_from_one = lit≤ tt;
    col_from_one = lit≤ tt;
    operands = (
      2,
      lit≤ tt,
      lit≤ tt,
      inl (refl, (refl, equal three_quarters (at normal_rows 3 2) refl, equal quarter (at normal_rows 3 1) refl, refl)),
    );
    pivot = λ e. apart quarter zero_ℚ refl (equal quarter (at normal_rows 3 1) refl ∙ e);
  });
}

abbrev two_normals : List (List ℚ)
two_normals = (quarter ∷ three_quarters ∷ []) ∷ (n 0 ∷ n 1 ∷ []) ∷ []

abbrev vectors : List (List ℚ)
vectors = (n 1 ∷ n 0 ∷ []) ∷ (minus 3 ∷ n 1 ∷ []) ∷ []

positive : (i : ℕ) → i < 2 → zero_ℚ <ℚ dot (slice_index_or two_normals i []) (slice_index_or vectors i [])
unfolding whole fraction gcd ◌+ℚ◌ ◌*ℚ◌ neg_ℚ inverse_ℚ le_ℚ
positive zero l = refl
positive (suc zero) l = refl
positive (suc (suc i)) l = absurd (omega (arith, l))

are_corners : AreCorners 2 two_normals vectors
unfolding whole fraction gcd ◌+ℚ◌ ◌*ℚ◌ neg_ℚ inverse_ℚ le_ℚ
are_corners = record {
  rows_wide = wide_test 2 two_normals refl;
  vectors_wide = wide_test 2 vectors refl;
  rows_many = refl;
  vectors_many = refl;
  positive = positive;
  zero_elsewhere = two_below (λ i j. i ≢ j → dot (slice_index_or two_normals i []) (slice_index_or vectors j []) ≡ zero_ℚ)
      (λ h. absurd (h refl)) (λ h. equal _ zero_ℚ refl) (λ h. equal _ zero_ℚ refl) (λ h. absurd (h refl));
}

abbrev numbers : List ℕ
numbers = 3 ∷ 4 ∷ []

image_allowed : AreStartRows in_chain image_rows 3
unfolding whole fraction gcd ◌+ℚ◌ ◌*ℚ◌ neg_ℚ inverse_ℚ le_ℚ
image_allowed = AreStartRows.of_image numbers
    (All-cons (λ k. (1 ≤ k) × (k ≤ 4)) 3 (4 ∷ []) (lit≤ tt, lit≤ tt)
    (All-cons (λ k. (1 ≤ k) × (k ≤ 4)) 4 [] (lit≤ tt, lit≤ tt) (All-nil (λ k. (1 ≤ k) × (k ≤ 4))))) refl
    (subst (λ (vs : List (List ℚ)). HasFullRank 2 vs) (rows_are two_normals (map (row_of (trail_normals 2 chain)) numbers) refl)
    (corners_determine 2 two_normals vectors are_corners))
    (rows_are image_rows (level 2 ∷ map (cut_row (standing in_chain)) numbers) refl)

elimination : OverflowsChain (Elim image_rows (0 ∷ 0 ∷ 0 ∷ []) 3 3 1) (operation Div (n 1) (minus 4))
unfolding whole fraction gcd ◌+ℚ◌ ◌*ℚ◌ neg_ℚ inverse_ℚ le_ℚ
elimination = overflow_laws.elimination is_few in_chain image_rows 3 image_rows 3 (0 ∷ 0 ∷ 0 ∷ []) 3 3 1 (operation Div (n 1) (minus 4)) refl refl
    (IsElimTable.alone (AreElimRows.of_start 3 image_allowed) refl refl) refl (lit≤ tt) (lit≤ tt) (
      image_rows,
      starts 3 image_rows (0 ∷ 0 ∷ 0 ∷ []) (wide_test 3 image_rows refl) (λ i. no_column 3 (i - 1)),
      (2, lit≤ tt, lit≤ tt, inl (refl, (refl, equal (n 1) (at image_rows 3 2) refl, equal (minus 4) (at image_rows 3 3) refl, refl))),
      lit≤ tt,
      lit≤ tt,
      lit≤ tt,
      lit≤ tt,
    )

-- ---- parallel cuts
-- a cut whose row begins with 0 is flat along the first axis
flat : (k : ℕ) → 1 ≤ k → k ≤ 4 → entry (cut_row (standing in_chain) k) 1 ≡ zero_ℚ → dot (row_of (trail_normals 2 chain) k) (n 1 ∷ n 0 ∷ []) ≡ zero_ℚ
unfolding whole fraction gcd ◌+ℚ◌ ◌*ℚ◌ neg_ℚ inverse_ℚ le_ℚ
flat zero l u e = absurd (omega (arith, l))
flat (suc zero) l u e = absurd (apart half zero_ℚ refl (equal half _ refl ∙ e))
flat (suc (suc zero)) l u e = equal _ zero_ℚ refl
flat (suc (suc (suc zero))) l u e = absurd (apart quarter zero_ℚ refl (equal quarter _ refl ∙ e))
flat (suc (suc (suc (suc zero)))) l u e = equal _ zero_ℚ refl
flat (suc (suc (suc (suc (suc k))))) l u e = absurd (omega (arith, u))

no_row : IsBaseRow plain ones (n 0 ∷ n 1 ∷ n 0 ∷ []) → ⊥
unfolding whole le_ℚ neg_ℚ
no_row (IsBaseRow.of_choice x h e) = apart (n 1) (neg_ℚ one_ℚ) refl (ap (λ (v : List ℚ). entry v 2) e)
no_row (IsBaseRow.of_ray r h e) = apart (n 1) zero_ℚ refl (ap (λ (v : List ℚ). entry v 2) e)
no_row (IsBaseRow.of_cone d (i, l, u, unit) e) =
    apart (n 1) zero_ℚ refl (ap (λ (v : List ℚ). entry v 2) (e ∙ ap (λ (y : List ℚ). exchange_row ones y false) unit))

no_image : (cuts : List ℕ) → All (λ k. (1 ≤ k) × (k ≤ 4)) cuts → length cuts ≡ 2 → HasFullRank 2 (map (row_of (trail_normals 2 chain)) cuts) →
    parallel_rows ≡ level 2 ∷ map (cut_row (standing in_chain)) cuts → ⊥
unfolding whole le_ℚ
no_image [] all many rank e = omega (arith, many)
no_image (a ∷ []) all many rank e = omega (arith, many)
no_image (a ∷ b ∷ c ∷ more) all many rank e = omega (arith, many)
no_image (a ∷ b ∷ []) all many rank e =
    let first : (1 ≤ a) × (a ≤ 4) = all 0 a (lit< tt) in
    let second : (1 ≤ b) × (b ≤ 4) = all 1 b (lit< tt) in
    let first_zero : entry (cut_row (standing in_chain) a) 1 ≡ zero_ℚ = sym (ap (λ (rs : List (List ℚ)). entry (slice_index_or rs 1 []) 1) e) in
    let second_zero : entry (cut_row (standing in_chain) b) 1 ≡ zero_ℚ = sym (ap (λ (rs : List (List ℚ)). entry (slice_index_or rs 2 []) 1) e) in
    let none : n 1 ∷ n 0 ∷ [] ≡ zero_ℚ ∷ zero_ℚ ∷ [] = rank (n 1 ∷ n 0 ∷ []) refl
    (All-cons (λ v. dot v (n 1 ∷ n 0 ∷ []) ≡ zero_ℚ) (row_of (trail_normals 2 chain) a) (row_of (trail_normals 2 chain) b ∷ [])
    (flat a first.0 first.1 first_zero)
    (All-cons (λ v. dot v (n 1 ∷ n 0 ∷ []) ≡ zero_ℚ) (row_of (trail_normals 2 chain) b) [] (flat b second.0 second.1 second_zero)
    (All-nil (λ v. dot v (n 1 ∷ n 0 ∷ []) ≡ zero_ℚ)))) in
    apart (n 1) zero_ℚ refl (ap (λ (v : List ℚ). entry v 1) none)

-- the trail has no line, so no entry is left out
unmarked : (vs : List (List ℚ)) → map (without (line_marks in_chain)) vs ≡ vs
unfolding whole
unmarked [] = refl
unmarked (v ∷ vs) = ap₂ (λ (p : List ℚ) (q : List (List ℚ)). p ∷ q) (none_marked 2 v).without_none (unmarked vs)

no_elimination : AreElimRows in_chain parallel_rows 3 → ⊥
unfolding whole
no_elimination h = go 3 h refl
  where
    go : (width : ℕ) → AreElimRows in_chain parallel_rows width → 3 ≡ width → ⊥
    go width (AreElimRows.of_normals e) l = let three : 3 ≡ 2 = l in omega (arith, three)
    go width (AreElimRows.of_start w (AreStartRows.of_image cuts all many rank e)) l =
        let count : length cuts + 0 ≡ 2 = many in
        no_image cuts all (omega (arith, count)) (subst (λ (vs : List (List ℚ)). HasFullRank 2 vs) (unmarked (map (row_of (trail_normals 2 chain)) cuts)) rank)
        (e ∙ unmarked (level 2 ∷ map (cut_row (standing in_chain)) cuts))
    go width (AreElimRows.of_start w (AreStartRows.of_cone all)) l = let three : 3 ≡ 2 = l in omega (arith, three)
    go width (AreElimRows.of_start w (AreStartRows.of_base c known all)) l =
        no_row (subst (λ (d : List ℚ). IsBaseRow plain d (n 0 ∷ n 1 ∷ n 0 ∷ [])) (known_is c known) (all 1 (n 0 ∷ n 1 ∷ n 0 ∷ []) (lit< tt)))

-- ---- the addition of the fourth cut
abbrev in_use : List (List ℚ)
in_use = rows_in_use 2 (standing in_chain)

abbrev first_rows : List (List ℚ)
first_rows = (n 0 ∷ n 0 ∷ n 1 ∷ []) ∷ (half ∷ half ∷ n 0 ∷ []) ∷ (n 0 ∷ n 1 ∷ n 0 ∷ []) ∷ (quarter ∷ three_quarters ∷ minus 3 ∷ []) ∷ []

abbrev last : List ℚ
last = n 0 ∷ n 1 ∷ minus 4 ∷ []

abbrev list : LiveList
list = (standing in_chain).list

used : first_rows ≡ in_use
unfolding whole fraction gcd ◌+ℚ◌ ◌*ℚ◌ neg_ℚ inverse_ℚ le_ℚ
used = rows_are first_rows in_use refl

allowed : IsAddition in_chain first_rows last list Image
unfolding whole fraction gcd ◌+ℚ◌ ◌*ℚ◌ neg_ℚ inverse_ℚ le_ℚ
allowed = IsAddition.of_image 4 (lit≤ tt) (lit≤ tt) used (same_vector_is last (cut_row (standing in_chain) 4) refl) refl

-- the live generators by their places
abbrev nothing : Numbered
nothing = record { number = 0; vector = [] }

abbrev live_at : ℕ → Numbered
live_at k = slice_index_or list.live k nothing

live_there : (k : ℕ) → k < length list.live → Contains list.live (live_at k)
live_there k l = (k, l, go list.live k l)
  where
    go : (xs : List Numbered) (k : ℕ) → k < length xs → slice_index_or xs k (slice_index_or xs k nothing) ≡ slice_index_or xs k nothing
    go [] k l = absurd (omega (arith, l))
    go (x ∷ xs) zero l = refl
    go (x ∷ xs) (suc k) l = go xs k (omega (arith, l))

value : OverflowsChain (Pair Image added_rows 4 0 1) (operation Mul (minus 4) (n 1))
unfolding whole fraction gcd ◌+ℚ◌ ◌*ℚ◌ neg_ℚ inverse_ℚ le_ℚ
value = record {
  not_held = not_held is_few (operation Mul (minus 4) (n 1)) refl refl;
  operands = record {
    before = first_rows;
    last = last;
    parted = refl;
    list = list;
    allowed = allowed;
    operands = IsPairStep.value (live_at 2) (live_there 2 (lit< tt)) refl refl
        (record { from_one = lit≤ tt; there = step_is (slice_get (value_steps last (live_at 2).vector) 0) Mul (minus 4) (n 1) refl });
  };
}

abbrev no_pair : LivePair
no_pair = record { plus_side = nothing; minus_side = nothing }

abbrev left_pairs : List LivePair
left_pairs = live_pairs first_rows list.live last

abbrev one_pair : LivePair
one_pair = slice_index_or left_pairs 0 no_pair

one_there : (ps : List LivePair) → 0 < length ps → Contains ps (slice_index_or ps 0 no_pair)
one_there [] l = absurd (omega (arith, l))
one_there (p ∷ ps) l = (0, l, refl)

pair : OverflowsChain (Pair Image added_rows 5 4 1) (operation Div (n 2) (n 4))
unfolding whole fraction gcd ◌+ℚ◌ ◌*ℚ◌ neg_ℚ inverse_ℚ le_ℚ
pair = record {
  not_held = not_held is_few (operation Div (n 2) (n 4)) refl refl;
  operands = record {
    before = first_rows;
    last = last;
    parted = refl;
    list = list;
    allowed = allowed;
    operands = IsPairStep.pair one_pair (one_there left_pairs (lit< tt)) refl refl
        (record {
          from_one = lit≤ tt;
          there = step_is (slice_get (pair_steps last one_pair.plus_side.vector one_pair.minus_side.vector) 0) Div (n 2) (n 4) refl;
        });
  };
}

-- ---- and none of it
-- what is added to the rows in use is the last of these rows
last_is : (before : List (List ℚ)) (x : List ℚ) → before ≡ first_rows → added_rows ≡ before ++ x ∷ [] → x ≡ last
last_is before x e f = sym (ap (λ (rs : List (List ℚ)). slice_index_or rs 4 []) (f ∙ ap (λ (rs : List (List ℚ)). rs ++ x ∷ []) e))

same_list : list_without (line_marks in_chain) list ≡ list
unfolding whole fraction gcd ◌+ℚ◌ ◌*ℚ◌ neg_ℚ inverse_ℚ le_ℚ
same_list = refl

fixed : (first second number : ℕ) (left : Left ℚ) → IsAdditionStep in_chain Image added_rows first second number left →
    IsPairStep first_rows last list first second number left
unfolding whole
fixed first second number left h = go h.allowed
  where
    go : IsAddition in_chain h.before h.last h.list Image → IsPairStep first_rows last list first second number left
    go (IsAddition.of_image k l u e f m) =
        let same : h.before ≡ first_rows = e ∙ sym used in
        subst (λ (ls : LiveList). IsPairStep first_rows last ls first second number left) (m ∙ same_list)
        (subst (λ (x : List ℚ). IsPairStep first_rows x h.list first second number left) (last_is h.before h.last same h.parted)
        (subst (λ (rs : List (List ℚ)). IsPairStep rs h.last h.list first second number left) same h.operands))

not_one : list_all (λ g. not (g.number == 1)) list.live ≡ true
unfolding whole fraction gcd ◌+ℚ◌ ◌*ℚ◌ neg_ℚ inverse_ℚ le_ℚ
not_one = refl

plus_five : list_all (λ p. p.plus_side.number == 5) left_pairs ≡ true
unfolding whole fraction gcd ◌+ℚ◌ ◌*ℚ◌ neg_ℚ inverse_ℚ le_ℚ
plus_five = refl

all_five : (p : LivePair) → Contains left_pairs p → (p.plus_side.number == 5) ≡ true
all_five p c = member_of (λ p. (p.plus_side.number == 5) ≡ true) left_pairs p (list_all-true (λ p. p.plus_side.number == 5) left_pairs plus_five) c

not_live : OverflowsChain (Pair Image added_rows 1 0 1) (operation Mul (minus 4) (n 1)) → ⊥
not_live h = go (fixed 1 0 1 (operation Mul (minus 4) (n 1)) h.operands)
  where
    go : IsPairStep first_rows last list 1 0 1 (operation Mul (minus 4) (n 1)) → ⊥
    go (IsPairStep.value g c e f s) =
        true≢false (sym (member_of (λ g. not (g.number == 1) ≡ true) list.live g (list_all-true (λ g. not (g.number == 1)) list.live not_one) c)
        ∙ ap (λ (k : ℕ). not (k == 1)) (sym e))
    go (IsPairStep.pair p c e f s) = true≢false (sym (all_five p c) ∙ ap (λ (k : ℕ). k == 5) (sym e))

covered : OverflowsChain (Pair Image added_rows 3 4 1) (operation Div (n 1) (n 4)) → ⊥
covered h = go (fixed 3 4 1 (operation Div (n 1) (n 4)) h.operands)
  where
    go : IsPairStep first_rows last list 3 4 1 (operation Div (n 1) (n 4)) → ⊥
    go (IsPairStep.value g c e f s) = omega (arith, f)
    go (IsPairStep.pair p c e f s) = true≢false (sym (all_five p c) ∙ ap (λ (k : ℕ). k == 5) (sym e))

pub image_examples : ImageExamples
image_examples = record {
  meets = meets;
  of_normals = of_normals;
  elimination = elimination;
  no_elimination = no_elimination;
  value = value;
  not_live = not_live;
  pair = pair;
  covered = covered;
}
